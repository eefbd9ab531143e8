use Rattle.std.proofs.Common.{◌≡◌, ◌++◌, map, take, drop}
use Rattle.roast.specs.Narrowing.{narrowed}
use Rattle.roast.specs.Machine.{after}
use Rattle.roast.specs.Replays.{ask, shown, replayed}
use Rattle.roast.proofs.replay.play_all.Given as goal

abbrev pub invariant-loop-entry : goal.invariant-loop-entry
invariant-loop-entry g l =
    let f = narrowed (g.S.System.meaning l.initial.roast.system) in
    let start = l.initial.roast.bounds in
    let all = map ask l.initial.entry-items in
    let left = map ask (drop l.entry-index l.entry-items) in
    record {
      same : l.roast.system ≡ l.initial.roast.system;
      box : after f l.roast.bounds left ≡ after f start all;
      answers : map shown (take l.entry-index l.entry-items) ++ replayed f l.roast.bounds left ≡ replayed f start all;
    }

-- What a call answers, in the numbers that C sees.
use Rattle.std.specs.Prelude.{ℕ, Bool, if◌then◌else◌, Ok, Err, Result}
use Rattle.balance.specs.declared.refusal.Refusal.{Refusal}
use Rattle.balance.specs.declared.refusal.Refusal.TheVariants.{Limit}
use Rattle.balance.specs.Refusals.{number, first_value}
use Rattle.firmware.specs.declared.reply.Reply.{Reply}

-- a call that is accepted has refusal 0 and a value
abbrev pub accepted : ℕ → Reply
accepted value = record { refusal = 0; place = 0; part = 0; row = 0; column = 0; value = value }

-- number 8 names a part, a row and a column, and every other number a place
abbrev pub refused : Refusal → Reply
refused (Limit part row column) =
    record { refusal = 8; place = 0; part = part; row = row; column = column; value = 0 }
refused r =
    record { refusal = number r; place = first_value r; part = 0; row = 0; column = 0; value = 0 }

-- what an accepted call answers has a value of its kind
abbrev pub reply : {X : Type 0} → (X → ℕ) → Result X Refusal → Reply
reply value (Ok x) = accepted (value x)
reply value (Err r) = refused r

-- ---- the kinds of answers

-- 1 for yes, and 0 for no
abbrev pub yes_or_no : Bool → ℕ
yes_or_no b = if b then 1 else 0

-- a number of changes or of nodes is told as it is
abbrev pub count : ℕ → ℕ
count n = n

-- what is no number is not told by the reply
abbrev pub no_value : {X : Type 0} → X → ℕ
no_value x = 0

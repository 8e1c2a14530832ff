-- What a call answers, and its number. Assumes nothing.
use Rattle.std.specs.Prelude.{ℕ, Ok, Err, Result}
use Rattle.seats.specs.declared.refusal.Refusal.{Refusal}
use Rattle.seats.specs.Refusals.{refusal_number}
use Rattle.book.specs.declared.answer.Outcome.{Outcome}

-- what comes of a call, or why it is turned away
abbrev pub Answer : Type 0 → Type 0
Answer V = Result (Outcome V) Refusal

-- the answer that a call's result stands for: what it gives is told as such an outcome, and a refusal as it is
abbrev pub told_as : {X V : Type 0} → (X → Outcome V) → Result X Refusal → Answer V
told_as outcome (Ok x) = Ok (outcome x)
told_as outcome (Err why) = Err why

-- the number of the refusal, or 0
abbrev pub answer_number : {X : Type 0} → Result X Refusal → ℕ
answer_number (Ok x) = 0
answer_number (Err why) = refusal_number why

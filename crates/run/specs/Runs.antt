-- What a run leaves in a buffer. Assumes nothing.
use Rattle.std.specs.Prelude.{◌≡◌, ℕ, ◌≤◌, cond, List, Ok, Err, Result, length, nat_lt}
use Rattle.numbers.specs.Buffers.{put}
use Rattle.paper.specs.declared.header.Header.{Header}
use Rattle.paper.specs.declared.fault.PaperFault.{PaperFault}
use Rattle.paper.specs.declared.«record».Record.{Record}
use Rattle.run.specs.declared.fault.RunFault.{RunFault}
use Rattle.run.specs.declared.fault.RunFault.TheVariants.{Room, InPaper}
use Rattle.run.specs.Printed.{all_lines}

-- so many bytes are written, these, at the start, where there is room for them, and the rest is as it was
pub record Wrote (before bytes : List ℕ) (n : ℕ) (end : List ℕ) : Type 0 where
  pub room : length bytes ≤ length before
  pub next : n ≡ length bytes
  pub after : end ≡ put before 0 bytes

-- by what the check of the paper answers: its lines are written, or nothing is
abbrev pub answer_to : Result Header PaperFault → List Record → Result ℕ RunFault
answer_to (Ok h) records = Ok (length (all_lines h records))
answer_to (Err fault) records = Err (InPaper fault)

abbrev pub buffer_after : List ℕ → Result Header PaperFault → List Record → List ℕ
buffer_after before (Ok h) records = put before 0 (all_lines h records)
buffer_after before (Err fault) records = before

-- the same where there is room for the most, and else nothing is written
pub record Ran (before : List ℕ) (checked : Result Header PaperFault) (records : List Record) (outcome : Result ℕ RunFault) (end : List ℕ) : Type 0 where
  pub answer : outcome ≡ cond (nat_lt (length before) 68400) (Err Room) (answer_to checked records)
  pub after : end ≡ cond (nat_lt (length before) 68400) before (buffer_after before checked records)

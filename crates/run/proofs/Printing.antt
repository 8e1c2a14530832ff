-- What is printed, by the check of the paper and the room in the buffer. Assumes nothing.
use Rattle.std.proofs.Common.{◌≡◌, ℕ, ◌<◌, ◌≤◌, Bool, true, false, cond, ltb, List, ◌++◌, length, take, drop, Ok, Err, Result, sym, ap, ◌∙◌, subst, append_assoc, arith}
use Rattle.std.proofs.lemmas.List.{drop-append-le, length-take-le, take-append-drop}
use Rattle.std.proofs.lemmas.Bool.{le-ltb}
use Rattle.std.proofs.lemmas.Fmt.{length-decimal-le}
use Rattle.blocks.specs.declared.fault.Figures.{Figures}
use Rattle.numbers.specs.Buffers.{put}
use Rattle.paper.specs.declared.header.Header.{Header}
use Rattle.paper.specs.declared.fault.PaperFault.{PaperFault}
use Rattle.paper.specs.declared.«record».Record.{Record}
use Rattle.paper.specs.Checks.{paper_checked}
use Rattle.paper.specs.Faults.{figures_of}
use Rattle.paper.specs.Reading.{paper_records}
use Rattle.run.specs.Lines.{fault_line}
use Rattle.run.specs.declared.fault.RunFault.{RunFault}
use Rattle.run.specs.declared.fault.RunFault.TheVariants.{Room, InPaper}
use Rattle.run.specs.Printed.{all_lines, printed, printed_as}
use Rattle.run.specs.Runs.{Ran, Wrote, buffer_after, answer_to}
use Rattle.run.proofs.Written.{figure_long, fault_long}

pub fault_short : (f : Figures) → f.number < 1000 → f.block < 1000 → f.«record» < 1000 → length (fault_line f) ≤ 14
fault_short f n b p =
    let long = fault_long f in
    let fn = figure_long f.number 32 in
    let fb = figure_long f.block 32 in
    let fp = figure_long f.«record» 10 in
    let ln = length-decimal-le 3 f.number (omega arith) (omega arith) (omega arith) in
    let lb = length-decimal-le 3 f.block (omega arith) (omega arith) (omega arith) in
    let lp = length-decimal-le 3 f.«record» (omega arith) (omega arith) (omega arith) in
    omega arith

put_front : (out bytes : List ℕ) → put out 0 bytes ≡ bytes ++ drop (length bytes) out
unfolding put
put_front out bytes = ap (λ n. bytes ++ drop n out) (omega arith)

-- bytes written to the front of a buffer
wrote_front : (k : ℕ) (out bytes : List ℕ) → k ≤ length out → length bytes ≤ k → put (take k out) 0 bytes ++ drop k out ≡ put out 0 bytes
wrote_front k out bytes roomy few =
    let long : length (take k out) ≡ k = length-take-le k out roomy in
    ap (λ x. x ++ drop k out) (put_front (take k out) bytes)
    ∙ append_assoc bytes (drop (length bytes) (take k out)) (drop k out)
    ∙ ap (λ x. bytes ++ x) (sym (drop-append-le (length bytes) (take k out) (drop k out) (omega arith)) ∙ ap (drop (length bytes)) (take-append-drop k out))
    ∙ sym (put_front out bytes)

-- where the first k bytes of a buffer are lent on for writing
wrote_whole : (k : ℕ) (out front mid all : List ℕ) (n : ℕ) → k ≤ length out → front ≡ take k out → Wrote front all n mid → Wrote out all n (mid ++ drop k out)
wrote_whole k out front mid all n roomy is wrote =
    let long : length front ≡ k = ap length is ∙ length-take-le k out roomy in
    let few = wrote.room in
    record {
      room = omega arith;
      next = wrote.next;
      after = ap (λ x. x ++ drop k out) (wrote.after ∙ ap (λ x. put x 0 all) is) ∙ wrote_front k out all roomy (omega arith);
    }

-- what a run leaves, where there is room: nothing is written for a paper that is not sound
pub ran_unsound : (out front : List ℕ) (checked : Result Header PaperFault) (records : List Record) (fault : PaperFault) (outcome : Result ℕ RunFault) → 68400 ≤ length out → front ≡ take 68400 out → checked ≡ Err fault →
    outcome ≡ Err (InPaper fault) → Ran out checked records outcome (front ++ drop 68400 out)
ran_unsound out front checked records fault outcome roomy is so answer =
    let enough : ltb (length out) 68400 ≡ false = le-ltb (length out) 68400 roomy in
    record {
      answer = answer ∙ ap (λ r. answer_to r records) (sym so) ∙ sym (ap (λ s. cond s (Err Room) (answer_to checked records)) enough);
      after =
          ap (λ x. x ++ drop 68400 out) is ∙ take-append-drop 68400 out ∙ ap (λ r. buffer_after out r records) (sym so) ∙ sym (ap (λ s. cond s out (buffer_after out checked records)) enough);
    }

pub ran_sound : (out front mid : List ℕ) (checked : Result Header PaperFault) (records : List Record) (h : Header) (n : ℕ) → 68400 ≤ length out → front ≡ take 68400 out → checked ≡ Ok h →
    Wrote front (all_lines h records) n mid → Ran out checked records (Ok n) (mid ++ drop 68400 out)
ran_sound out front mid checked records h n roomy is so wrote =
    let enough : ltb (length out) 68400 ≡ false = le-ltb (length out) 68400 roomy in
    let whole = wrote_whole 68400 out front mid (all_lines h records) n roomy is wrote in
    record {
      answer = ap Ok whole.next ∙ ap (λ r. answer_to r records) (sym so) ∙ sym (ap (λ s. cond s (Err Room) (answer_to checked records)) enough);
      after = whole.after ∙ ap (λ r. buffer_after out r records) (sym so) ∙ sym (ap (λ s. cond s out (buffer_after out checked records)) enough);
    }

-- what is answered, and what is left
pub record Answered (short : Bool) (out end all : List ℕ) (outcome : Result ℕ RunFault) : Type 0 where
  pub answer : outcome ≡ cond short (Err Room) (Ok (length all))
  pub after : end ≡ cond short out (put out 0 all)

-- by what the outcome of a run tells of the room and of the check of the paper
module _ (paper out mid : List ℕ) where
  pub sound_answered : (n : ℕ) → Ran out (paper_checked paper) (paper_records paper) (Ok n) mid → Answered (ltb (length out) 68400) out mid (printed paper) (Ok n)
  unfolding printed
  sound_answered n told = by_check (ltb (length out) 68400) (paper_checked paper) told.answer told.after
    where
      by_check : (short : Bool) (checked : Result Header PaperFault) → Ok n ≡ cond short (Err Room) (answer_to checked (paper_records paper)) → mid ≡ cond short out (buffer_after out checked (paper_records paper)) →
          Answered short out mid (printed_as checked (paper_records paper)) (Ok n)
      by_check true checked answer after = cc
      by_check false (Ok h) answer after = record { answer = answer; after = after }
      by_check false (Err fault) answer after = cc

  module _ (why : RunFault) (fault : PaperFault) (is : why ≡ InPaper fault) where
    pub fault_answered : (end : List ℕ) (n : ℕ) → Ran out (paper_checked paper) (paper_records paper) (Err why) mid → Wrote mid (fault_line (figures_of fault)) n end →
        Answered (ltb (length out) 68400) out end (printed paper) (Ok n)
    unfolding printed
    fault_answered end n told wrote = by_check (ltb (length out) 68400) (paper_checked paper) told.answer told.after
      where
        by_check : (short : Bool) (checked : Result Header PaperFault) → Err why ≡ cond short (Err Room) (answer_to checked (paper_records paper)) → mid ≡ cond short out (buffer_after out checked (paper_records paper)) →
            Answered short out end (printed_as checked (paper_records paper)) (Ok n)
        by_check true checked answer after = cc
        by_check false (Ok h) answer after = cc
        by_check false (Err other) answer after =
            let same : fault ≡ other = cc in
            let told : Wrote out (fault_line (figures_of other)) n end = subst (λ f. Wrote out (fault_line (figures_of f)) n end) same (subst (λ b. Wrote b (fault_line (figures_of fault)) n end) after wrote) in
            record { answer = ap Ok told.next; after = told.after }

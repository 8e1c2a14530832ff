-- What is printed of a paper. Assumes nothing.
use Rattle.std.specs.Prelude.{ℕ, ◌+◌, ◌-◌, ◌*◌, cond, List, [], ◌∷◌, ◌++◌, Some, None, Ok, Err, Option, Result, ◌==◌}
use Rattle.tallies.specs.Kinds.{Kind}
use Rattle.tallies.specs.Replicas.{replicas_kind, replicas_number}
use Rattle.tallies.specs.Traffic.{traffic_kind}
use Rattle.rules.specs.Rules.{Meaning, plain_rule, plain_number, fnv_rule}
use Rattle.seats.specs.Shapes.{Size}
use Rattle.book.specs.Answers.{answer_number}
use Rattle.book.specs.Books.{Book, Call, post, reverse, erase, look_up, widen, narrow, blank, holding, fingerprint, answer, after}
use Rattle.paper.specs.declared.«record».Call as paper
use Rattle.paper.specs.declared.«record».Call.TheVariants.{Post, Reverse, Erase, LookUp, Widen, Narrow}
use Rattle.paper.specs.declared.«record».Record.{Record}
use Rattle.paper.specs.declared.header.Header.{Header}
use Rattle.paper.specs.declared.fault.PaperFault.{PaperFault}
use Rattle.paper.specs.Records.{takes_key}
use Rattle.paper.specs.Reading.{paper_records}
use Rattle.paper.specs.Checks.{paper_checked}
use Rattle.paper.specs.Faults.{figures_of}
use Rattle.run.specs.Figures.{replicas_shown, replicas_made, traffic_shown, traffic_made}
use Rattle.run.specs.Lines.{line, fault_line}

-- how many work words a run lends to each call
abbrev pub lent : ℕ
lent = 512

-- the book's call of a paper's call
abbrev pub asks : {V : Type 0} → paper.Call → List ℕ → V → Call V
asks Post key amount = post key amount lent
asks Reverse key amount = reverse key amount
asks Erase key amount = erase key
asks LookUp key amount = look_up key
asks Widen key amount = widen
asks Narrow key amount = narrow lent

-- the book's call for a record; `made` is the tally that packets and octets stand for
abbrev pub call_for : {V : Type 0} → (ℕ → ℕ → V) → Record → Call V
call_for made r = asks r.call r.key (made r.packets r.octets)

-- the figures of what is held, or two zeros; `shown` are those of a tally
abbrev pub figures_held : {V : Type 0} → (V → ℕ × ℕ) → Option V → ℕ × ℕ
figures_held shown None = (0, 0)
figures_held shown (Some v) = shown v

-- the two figures after a record's call: of what the book then holds for the key's fingerprint, or, where the call takes no
-- key, the rows in use and how many fingerprints are held
abbrev pub figures_after : {V : Type 0} → Meaning → (V → ℕ × ℕ) → Book V → Record → ℕ × ℕ
figures_after rule shown b r = cond (takes_key r.call) (figures_held shown (b.entries (fingerprint rule b r.key))) (b.size.rows, holding b)

-- the line of a record, in its place of the paper
unfoldable pub call_line : {V : Type 0} → Kind V → Meaning → (V → ℕ × ℕ) → (ℕ → ℕ → V) → Book V → ℕ → Record → List ℕ
call_line k rule shown made b place r =
    let c = call_for made r in
    let figures = figures_after rule shown (after k rule b c) r in
    line place (answer_number (answer k rule b c)) figures.0 figures.1

-- the lines of records from a place on, each call made on the book that the one before it left
unfoldable pub lines : {V : Type 0} → Kind V → Meaning → (V → ℕ × ℕ) → (ℕ → ℕ → V) → Book V → ℕ → List Record → List ℕ
lines k rule shown made b place [] = []
lines k rule shown made b place (r ∷ rs) = call_line k rule shown made b place r ++ lines k rule shown made (after k rule b (call_for made r)) (place + 1) rs

-- the numbers of a header's table
abbrev pub size_of : Header → Size
size_of h = record { buckets = h.buckets; most = h.most; rows = h.rows; range = h.buckets * (h.buckets - 1) }

-- the rule that a header names
abbrev pub rule_of : Header → Meaning
rule_of h = cond (h.rule == plain_number) plain_rule fnv_rule

-- the lines of all records, on the blank book and in the kind that the header names
unfoldable pub all_lines : Header → List Record → List ℕ
all_lines h records =
    cond (h.kind == replicas_number)
    (lines replicas_kind (rule_of h) replicas_shown replicas_made (blank (size_of h)) 1 records)
    (lines traffic_kind (rule_of h) traffic_shown traffic_made (blank (size_of h)) 1 records)

-- by what the check of the paper answers
abbrev pub printed_as : Result Header PaperFault → List Record → List ℕ
printed_as (Ok h) records = all_lines h records
printed_as (Err fault) records = fault_line (figures_of fault)

-- the lines of a sound paper's records, or the line of its first fault
unfoldable pub printed : List ℕ → List ℕ
printed paper = printed_as (paper_checked paper) (paper_records paper)

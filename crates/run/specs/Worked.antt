-- Worked cases of papers: what the definitions compute, beside what it should be. Assumes nothing.
use Rattle.std.specs.Prelude.{◌≡◌, ℕ, true, false, List, [], ◌∷◌, ◌++◌, length, map, take, replicate, Some, None, Ok, slice_set}
use Rattle.tallies.specs.Traffic.{traffic, traffic_kind}
use Rattle.rules.specs.Rules.{fnv_rule}
use Rattle.book.specs.Books.{blank, enter}
use Rattle.blocks.specs.Blocks.{count_in, with_check}
use Rattle.paper.specs.declared.«record».Call.{Call}
use Rattle.paper.specs.declared.«record».Call.TheVariants.{Post, Reverse, Erase, LookUp, Widen, Narrow}
use Rattle.paper.specs.declared.«record».Record.{Record}
use Rattle.paper.specs.declared.header.Header.{Header}
use Rattle.paper.specs.Checks.{paper_checked}
use Rattle.paper.specs.Headers.{header_fits}
use Rattle.paper.specs.Reading.{paper_records}
use Rattle.paper.specs.Records.{code_of, call_of, named_call}
use Rattle.paper.specs.Writing.{paper_bytes}
use Rattle.run.specs.Figures.{traffic_shown, traffic_made}
use Rattle.run.specs.Lines.{line}
use Rattle.run.specs.Printed.{call_line, printed, size_of}
use Rattle.run.specs.Texts.{lines_of}

-- the calls in the order of their codes
abbrev pub all_calls : List Call
all_calls = Post ∷ Reverse ∷ Erase ∷ LookUp ∷ Widen ∷ Narrow ∷ []

-- a key of one byte and twelve zeros
abbrev pub key : ℕ → List ℕ
key first = first ∷ replicate 12 0

-- a record of a key of one byte
abbrev pub entry : Call → ℕ → ℕ → ℕ → Record
entry call first packets octets = record { call = call; key = key first; packets = packets; octets = octets }

-- its 26 bytes, where its packets are one byte and it has no octets
abbrev pub entry_bytes : ℕ → ℕ → ℕ → List ℕ
entry_bytes code first packets = code ∷ key first ++ (packets ∷ replicate 11 0)

-- buckets, rows in use, most rows, and the numbers of the rule and the kind
abbrev pub header : ℕ → ℕ → ℕ → ℕ → ℕ → Header
header buckets rows most rule kind = record { buckets = buckets; rows = rows; most = most; rule = rule; kind = kind }

-- headers at their limits, and each field beyond them
abbrev pub fit_headers : List Header
fit_headers = header 2 1 1 1 1 ∷ header 256 8 8 2 2 ∷ []

abbrev pub unfit_headers : List Header
unfit_headers =
    header 1 1 1 1 1 ∷ header 257 1 1 1 1 ∷ header 2 0 1 1 1 ∷ header 2 2 1 1 1 ∷ header 2 1 9 1 1
    ∷ header 2 1 1 0 1 ∷ header 2 1 1 3 1 ∷ header 2 1 1 1 0 ∷ header 2 1 1 1 3 ∷ []

-- the sample: 3 buckets, one row in use of two, plain numbers, replicas
abbrev pub sample_header : Header
sample_header = header 3 1 2 1 1

-- its nine calls
abbrev pub sample_records : List Record
sample_records =
    entry Post 1 1 0 ∷ entry Post 3 2 0 ∷ entry Post 0 1 0 ∷ entry Widen 0 0 0 ∷ entry Post 0 1 0
    ∷ entry Narrow 0 0 0 ∷ entry Reverse 3 2 0 ∷ entry Narrow 0 0 0 ∷ entry LookUp 7 0 0 ∷ []

-- its bytes 0 to 503
abbrev pub sample_body : List ℕ
sample_body =
    (3 ∷ 0 ∷ 1 ∷ 2 ∷ 1 ∷ 1 ∷ 9 ∷ 0 ∷ [])
    ++ (entry_bytes 1 1 1 ++ (entry_bytes 1 3 2 ++ (entry_bytes 1 0 1 ++ (entry_bytes 5 0 0 ++ (entry_bytes 1 0 1
    ++ (entry_bytes 6 0 0 ++ (entry_bytes 2 3 2 ++ (entry_bytes 6 0 0 ++ (entry_bytes 4 7 0 ++ replicate 262 0)))))))))

-- its one block of 512 bytes
abbrev pub sample : List ℕ
sample = sample_body ++ (66 ∷ 136 ∷ 246 ∷ 51 ∷ 206 ∷ 32 ∷ 211 ∷ 20 ∷ [])

-- the sample with another byte in a place, and the right check for it
abbrev pub sample_with : ℕ → ℕ → List ℕ
sample_with place byte = with_check (slice_set sample_body place byte)

-- 3 buckets, one row in use of two, FNV-1a, traffic
abbrev pub traffic_header : Header
traffic_header = header 3 1 2 2 2

-- two keys of one fingerprint by FNV-1a, of two by the plain number: posts up to the ceilings and beyond, and two erasures
abbrev pub traffic_records : List Record
traffic_records =
    entry Post 1 4294967295 1 ∷ entry Post 3 0 999999999999999 ∷ entry Post 1 0 1 ∷ entry Erase 3 0 0 ∷ entry Erase 1 0 0 ∷ []

-- calls that seat nothing
abbrev pub quiet_records : List Record
quiet_records =
    entry Narrow 0 0 0 ∷ entry Widen 0 0 0 ∷ entry Widen 0 0 0 ∷ entry Post 1 0 1000000000000001 ∷ entry Reverse 1 0 5
    ∷ entry Reverse 1 0 0 ∷ entry Erase 1 0 0 ∷ entry LookUp 1 0 0 ∷ []

-- two blocks, of 19 records and of one, which is unfit
abbrev pub two_blocks : List ℕ
two_blocks = paper_bytes traffic_header (replicate 19 (entry LookUp 1 0 0) ++ (entry LookUp 1 1 0 ∷ []))

-- the line of a post by no packets and 999,999,999,999,999 octets, where 4,294,967,295 packets and an octet are held
abbrev pub joining_line : List ℕ
joining_line =
    let held = enter (blank (size_of traffic_header)) (fnv_rule (key 1) 6) (Some (traffic 4294967295 1)) in
    call_line traffic_kind fnv_rule traffic_shown traffic_made held 1900 (entry Post 1 0 999999999999999)

-- each case comes out as it should
pub record WorkedPapersHold : Type 0 where
  -- the codes of the calls
  pub codes : map code_of all_calls ≡ 1 ∷ 2 ∷ 3 ∷ 4 ∷ 5 ∷ 6 ∷ []
  pub calls : map call_of (1 ∷ 2 ∷ 3 ∷ 4 ∷ 5 ∷ 6 ∷ []) ≡ all_calls
  pub named : map named_call (1 ∷ 2 ∷ 3 ∷ 4 ∷ 5 ∷ 6 ∷ []) ≡ map Some all_calls
  pub no_calls : map named_call (0 ∷ 7 ∷ []) ≡ None ∷ None ∷ []
  -- what is read where no call is named, which no paper that is found sound has
  pub other_codes : map call_of (0 ∷ 7 ∷ []) ≡ Narrow ∷ Narrow ∷ []
  pub unsound_read : length (paper_records (sample_with 8 7)) ≡ 9
  -- a paper's length, and the limits of its header
  pub lengths : map count_in (0 ∷ 511 ∷ 512 ∷ 513 ∷ 51200 ∷ 51201 ∷ 51712 ∷ []) ≡ None ∷ None ∷ Some 1 ∷ None ∷ Some 100 ∷ None ∷ None ∷ []
  pub fit : map header_fits fit_headers ≡ replicate 2 true
  pub unfit : map header_fits unfit_headers ≡ replicate 9 false
  -- the sample's header and records, from its bytes and back
  pub header_read : paper_checked sample ≡ Ok sample_header
  pub records_read : paper_records sample ≡ sample_records
  pub written : paper_bytes sample_header sample_records ≡ sample
  -- the faults: a byte too few; another check; one bucket; rule 3; call 7; an octet in a paper of
  -- replicas; a widening with a key; a look-up with a packet; a byte behind the last record, and one behind the place of the
  -- nineteenth; a look-up with a packet, first in the second block
  pub cut : printed (take 511 sample) ≡ lines_of ("F 13 0 0" ∷ [])
  pub check_turned : printed (slice_set sample 511 21) ≡ lines_of ("F 14 0 0" ∷ [])
  pub one_bucket : printed (sample_with 0 1) ≡ lines_of ("F 15 0 0" ∷ [])
  pub third_rule : printed (sample_with 4 3) ≡ lines_of ("F 15 0 0" ∷ [])
  pub no_call : printed (sample_with 8 7) ≡ lines_of ("F 16 0 1" ∷ [])
  pub octet_of_replicas : printed (sample_with 26 1) ≡ lines_of ("F 16 0 1" ∷ [])
  pub widening_with_key : printed (sample_with 87 1) ≡ lines_of ("F 16 0 4" ∷ [])
  pub look_up_with_packet : printed (sample_with 230 1) ≡ lines_of ("F 16 0 9" ∷ [])
  pub behind_the_count : printed (sample_with 242 1) ≡ lines_of ("F 16 0 10" ∷ [])
  pub behind_the_records : printed (sample_with 503 1) ≡ lines_of ("F 16 0 0" ∷ [])
  pub in_second_block : printed two_blocks ≡ lines_of ("F 16 1 1" ∷ [])
  -- the lines of calls
  pub sample_lines :
      printed sample
      ≡ lines_of ("1 0 1 0" ∷ "2 0 2 0" ∷ "3 8 0 0" ∷ "4 0 2 2" ∷ "5 0 1 0" ∷ "6 12 2 3" ∷ "7 0 0 0" ∷ "8 0 1 2" ∷ "9 0 1 0" ∷ [])
  pub traffic_lines :
      printed (paper_bytes traffic_header traffic_records)
      ≡ lines_of ("1 0 4294967295 1" ∷ "2 0 4294967295 1000000000000000" ∷ "3 7 4294967295 1000000000000000" ∷ "4 0 0 0" ∷ "5 9 0 0" ∷ [])
  pub quiet_lines :
      printed (paper_bytes traffic_header quiet_records)
      ≡ lines_of ("1 11 1 0" ∷ "2 0 2 0" ∷ "3 11 2 0" ∷ "4 6 0 0" ∷ "5 9 0 0" ∷ "6 6 0 0" ∷ "7 9 0 0" ∷ "8 0 0 0" ∷ [])
  pub large_figures : joining_line ≡ lines_of ("1900 0 4294967295 1000000000000000" ∷ [])
  pub longest : line 1900 12 4294967295 1000000000000000 ≡ lines_of ("1900 12 4294967295 1000000000000000" ∷ [])

-- The records of a paper: 26 bytes each, a call with its key and its amounts. Assumes nothing.
use Rattle.std.specs.Prelude.{◌≡◌, ℕ, ◌^◌, ◌<◌, Bool, true, false, cond, not, ◌&&◌, ◌||◌, List, ◌∷◌, ◌++◌, length, take, drop, is_some, Some, None, Option, Result, MatchResult, ◌==◌, nat_le, slice_index}
use Rattle.std.specs.List.{position_from}
use Rattle.numbers.specs.LittleEndian.{number_at, bytes_of}
use Rattle.tallies.specs.Replicas.{replicas_number}
use Rattle.paper.specs.declared.«record».Call.{Call}
use Rattle.paper.specs.declared.«record».Call.TheVariants.{Post, Reverse, Erase, LookUp, Widen, Narrow}
use Rattle.paper.specs.declared.«record».Record.{Record}
use Rattle.paper.specs.declared.«record».UnknownCall.{UnknownCall}

-- the byte that names a call
abbrev pub code_of : Call → ℕ
code_of Post = 1
code_of Reverse = 2
code_of Erase = 3
code_of LookUp = 4
code_of Widen = 5
code_of Narrow = 6

-- whether a byte names a call
abbrev pub is_code : ℕ → Bool
is_code n = nat_le 1 n && nat_le n 6

-- the call of a code from 1 to 6
abbrev pub call_of : ℕ → Call
call_of n = cond (n == 1) Post (cond (n == 2) Reverse (cond (n == 3) Erase (cond (n == 4) LookUp (cond (n == 5) Widen Narrow))))

-- the call that a byte names, if it names one
abbrev pub named_call : ℕ → Option Call
named_call n = cond (is_code n) (Some (call_of n)) None

-- the call of a code, or an error with a code that has none
abbrev pub Decodes : ℕ → Result Call UnknownCall → Type 0
Decodes code r = MatchResult r (λ call. named_call code ≡ Some call) (λ e. (e.0 ≡ code) × (named_call code ≡ None))

-- whether a call has packets and octets
abbrev pub takes_amount : Call → Bool
takes_amount Post = true
takes_amount Reverse = true
takes_amount Erase = false
takes_amount LookUp = false
takes_amount Widen = false
takes_amount Narrow = false

-- whether a call has a key
abbrev pub takes_key : Call → Bool
takes_key Post = true
takes_key Reverse = true
takes_key Erase = true
takes_key LookUp = true
takes_key Widen = false
takes_key Narrow = false

-- the place, counted from i, of the first byte that is not zero
abbrev pub first_nonzero : ℕ → List ℕ → Option ℕ
first_nonzero i bytes = position_from (λ b. not (b == 0)) i bytes

abbrev pub all_zero : List ℕ → Bool
all_zero bytes = not (is_some (first_nonzero 0 bytes))

-- packets and octets are zero where the call takes none
abbrev pub amount_fits : Record → Bool
amount_fits r = takes_amount r.call || (r.packets == 0 && r.octets == 0)

-- the key is zero where the call takes none
abbrev pub key_fits : Record → Bool
key_fits r = takes_key r.call || all_zero r.key

-- replicas have no octets
abbrev pub octets_fit : ℕ → Record → Bool
octets_fit kind r = not (kind == replicas_number) || r.octets == 0

-- whether a paper of this kind may have the record
unfoldable pub record_fits : ℕ → Record → Bool
record_fits kind r = amount_fits r && (key_fits r && octets_fit kind r)

-- the record in 26 bytes
abbrev pub record_of : List ℕ → Record
record_of bytes = record { call = call_of (slice_index bytes 0); key = take 13 (drop 1 bytes); packets = number_at 4 bytes 14; octets = number_at 8 bytes 18 }

-- the same, if the first byte names a call
abbrev pub named_record : List ℕ → Option Record
named_record bytes = cond (is_code (slice_index bytes 0)) (Some (record_of bytes)) None

-- the bytes of a record
abbrev pub record_bytes : Record → List ℕ
record_bytes r = code_of r.call ∷ (r.key ++ (bytes_of 4 r.packets ++ bytes_of 8 r.octets))

-- what the types of the fields let a record hold
abbrev pub Held : Record → Type 0
Held r = (length r.key ≡ 13) × (r.packets < 2 ^ 32) × (r.octets < 2 ^ 64)

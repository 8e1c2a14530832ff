-- Bytes printed behind those that a buffer has. Assumes nothing.
use Rattle.std.specs.Prelude.{◌≡◌, ℕ, ◌+◌, ◌≤◌, List, length}
use Rattle.numbers.specs.Buffers.{put}
use Rattle.run.specs.declared.lines.Printer.{Printer}

-- there is room for these bytes
abbrev pub Fits : Printer → List ℕ → Type 0
Fits p bytes = p.at + length bytes ≤ length p.out.now

-- these bytes are printed, and nothing else of the buffer changes
pub record Prints (p : Printer) (bytes : List ℕ) (q : Printer) : Type 0 where
  pub next : q.at ≡ p.at + length bytes
  pub after : q.out.now ≡ put p.out.now p.at bytes
  pub lent : q.out.ghost_name ≡ p.out.ghost_name

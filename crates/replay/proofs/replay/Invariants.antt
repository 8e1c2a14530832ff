use Rattle.std.proofs.Common.{◌≡◌, length, take, drop}
use Rattle.replay.specs.Replayed.{all_asked, Replayed}
use Rattle.replay.proofs.replay.Given as goal

abbrev pub invariant-loop-i : goal.invariant-loop-i
invariant-loop-i g l =
    (drop l.i l.answers ≡ drop l.i l.initial.answers)
    × Replayed g.T.Tally.kind (g.R.Rule.meaning l.rule) l.initial.table (all_asked (length l.initial.words) (take l.i l.requests)) (take l.i l.answers) l.table

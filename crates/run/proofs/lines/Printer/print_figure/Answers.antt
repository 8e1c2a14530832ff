use Rattle.std.proofs.Common.{[], ◌∷◌, decimal}
use Rattle.run.specs.Lines.{figure}
use Rattle.run.proofs.Printers.{fits_behind, fits_front, prints_on}
use Rattle.run.proofs.lines.Printer.print_figure.Goals as goal

pub print_number-requires : goal.print_number-requires
unfolding figure
print_number-requires c = fits_front c.args.self.now (decimal c.args.n) (c.args.end ∷ []) c.requires

pub print_byte-requires : goal.print_byte-requires
unfolding figure
print_byte-requires c = fits_behind c.print_number.ensures (c.args.end ∷ []) c.requires

pub returns : goal.returns
unfolding figure
returns c = prints_on c.print_number.ensures (c.args.end ∷ []) c.requires c.print_byte.ensures

use Rattle.std.proofs.Common.{[], ◌∷◌, refl, arith}
use Rattle.seatings.specs.Seatings.{seatable}
use Rattle.blocks.specs.Blocks.{check_holds, with_check}
use Rattle.paper.specs.Checks.{paper_checked, block_checked, front_fits}
use Rattle.paper.specs.Headers.{header_fits}
use Rattle.paper.specs.Records.{record_fits}
use Rattle.paper.specs.Writing.{block_bytes, paper_bytes}
use Rattle.run.specs.Printed.{printed, all_lines, lines, call_line}
use Rattle.run.proofs.Spelled.{row, row_spelled, rows_spelled, fault_spelled, told}
use Rattle.run.proofs.worked.worked_papers_hold.Goals as goal

pub returns : goal.returns
unfolding printed all_lines lines call_line paper_checked block_checked front_fits check_holds with_check header_fits record_fits block_bytes paper_bytes seatable
returns c = record {
  codes = refl;
  calls = refl;
  named = refl;
  no_calls = refl;
  other_codes = refl;
  unsound_read = refl;
  lengths = refl;
  fit = refl;
  unfit = refl;
  header_read = refl;
  records_read = refl;
  written = refl;
  cut = fault_spelled (told 13 0 0) (omega arith) (omega arith) (omega arith);
  check_turned = fault_spelled (told 14 0 0) (omega arith) (omega arith) (omega arith);
  one_bucket = fault_spelled (told 15 0 0) (omega arith) (omega arith) (omega arith);
  third_rule = fault_spelled (told 15 0 0) (omega arith) (omega arith) (omega arith);
  no_call = fault_spelled (told 16 0 1) (omega arith) (omega arith) (omega arith);
  octet_of_replicas = fault_spelled (told 16 0 1) (omega arith) (omega arith) (omega arith);
  widening_with_key = fault_spelled (told 16 0 4) (omega arith) (omega arith) (omega arith);
  look_up_with_packet = fault_spelled (told 16 0 9) (omega arith) (omega arith) (omega arith);
  behind_the_count = fault_spelled (told 16 0 10) (omega arith) (omega arith) (omega arith);
  behind_the_records = fault_spelled (told 16 0 0) (omega arith) (omega arith) (omega arith);
  in_second_block = fault_spelled (told 16 1 1) (omega arith) (omega arith) (omega arith);
  sample_lines = rows_spelled (row 1 0 1 0 ∷ row 2 0 2 0 ∷ row 3 8 0 0 ∷ row 4 0 2 2 ∷ row 5 0 1 0 ∷ row 6 12 2 3 ∷ row 7 0 0 0 ∷ row 8 0 1 2 ∷ row 9 0 1 0 ∷ []) refl;
  traffic_lines = rows_spelled (row 1 0 4294967295 1 ∷ row 2 0 4294967295 1000000000000000 ∷ row 3 7 4294967295 1000000000000000 ∷ row 4 0 0 0 ∷ row 5 9 0 0 ∷ []) refl;
  quiet_lines = rows_spelled (row 1 11 1 0 ∷ row 2 0 2 0 ∷ row 3 11 2 0 ∷ row 4 6 0 0 ∷ row 5 9 0 0 ∷ row 6 6 0 0 ∷ row 7 9 0 0 ∷ row 8 0 0 0 ∷ []) refl;
  large_figures = row_spelled (row 1900 0 4294967295 1000000000000000) refl;
  longest = row_spelled (row 1900 12 4294967295 1000000000000000) refl;
}

use Rattle.std.proofs.Common.{◌≡◌, ◌/◌, ◌<◌, min, [], length, get_or, refl, ap, ◌∙◌, arith, length-take, get_or-take}
use Rattle.blocks.proofs.Pieces.{slice_index_or_pieces}
use Rattle.seats.specs.declared.shape.Shape.{Shape}
use Rattle.seats.specs.Shapes.{size}
use Rattle.tallies.specs.Replicas.{replicas_kind}
use Rattle.book.specs.Books.{blank}
use Rattle.table.specs.Requests.{asked}
use Rattle.replay.proofs.Accounts.{fresh_keeps}
use Rattle.numbers.specs.Buffers.{put}
use Rattle.exports.specs.Calls.{piece_asks, row_of, told}
use Rattle.exports.proofs.Answered.{going_first, going_on, gone}
use Rattle.exports.proofs.row.make_row.Goals as goal

pub loop-i-init : goal.loop-i-init
loop-i-init c =
    let t = c.open-table.result in
    let fresh = c.open-table.ensures.fresh c.requires in
    (going_first t (size t.shape) c.args.calls.now c.min-count.result c.args.numbers.now (fresh_keeps replicas_kind t fresh), refl)

pub loop-i-preserved : goal.loop-i-preserved
loop-i-preserved c =
    let i = c.loop-i.i in
    let calls = c.args.calls.now in
    let chunks = c.as_chunks.result.0.now in
    let n = c.min-count.result in
    let whole = length calls / 5 in
    let low : i < n = omega (arith, length-take n chunks) in
    let inside : i < whole = omega (arith, c.as_chunks.ensures.front_len) in
    let piece = get_or-take n chunks i [] low ∙ ap (λ l. get_or l i []) c.as_chunks.ensures.front ∙ slice_index_or_pieces 5 i whole calls inside in (
      going_on c.loop-i.invariant.0 (asked (length c.loop-i.words) c.request_of.result) c.call-answer.result c.call-answer.new.self _ c.number_of.result
          low (omega arith) (omega arith)
          (ap (λ n. asked n c.request_of.result) c.loop-i.invariant.1 ∙ c.request_of.ensures ∙ ap piece_asks piece)
          c.call-answer.ensures.did c.number_of.ensures refl,
      omega arith,
    )

pub returns : goal.returns
returns c =
    let n = c.min-count.result in
    let all : c.loop-i.i ≡ n = omega (arith, length-take n c.as_chunks.result.0.now) in
    record {
      made = c.min-count.ensures ∙ ap (λ m. min m (length c.args.numbers.now)) c.as_chunks.ensures.front_len;
      after =
          gone c.loop-i.invariant.0 all
          ∙ ap (λ (s : Shape). put c.args.numbers.now 0 (told (blank (size s)) (row_of n c.args.calls.now))) c.open-table.ensures.numbers.0;
    }

use Rattle.std.proofs.Common.{◌≡◌, ◌<◌, ◌-◌, length, drop, arith, true, false, rules}
use Rattle.std.proofs.lemmas.Result.{err_from_is_err_and}
use Rattle.std.proofs.lemmas.List.{nil_from_length}
use Rattle.std.proofs.lemmas.Grind.{common_steps}
use Rattle.osc_reader.specs.Reading.{elements_behind, part_at, is_bundle}
use Rattle.osc_reader.specs.Places.{Fails}
use Rattle.osc_reader.proofs.BundleLemmas.{some_bytes, adds_on, adds_end, adds_end_at_size, added, from_nothing, part-single, part-deep, part-bundle, bundle-short, bundle-elements}
use Rattle.osc_reader.proofs.packet.+part.Goals as goal

pub add_elements-returns-in_err-part : goal.add_elements-returns-in_err-part
add_elements-returns-in_err-part t c =
    let some : 0 < length c.elements.rest.now = grind (arith, common_steps) in
    let p = err_from_is_err_and c.from_residual.result c.from_residual.ensures.1 in
    rw (p.1, p.2) (from_nothing c.args.out.now c.in_err-part.field-0.0
    (elements_behind (part_at c.args.depth) c.args.end 0 c.args.bytes.now)
    (adds_end_at_size (part_at c.args.depth) c.args.end c.elements.rest.now c.elements.out
    c.in_err-part.field-0.0 _ (some_bytes c.elements.rest.now some) c.in_err-part.ensures.value
    c.elements.invariant))

pub add_elements-returns-in_err-add_part : goal.add_elements-returns-in_err-add_part
add_elements-returns-in_err-add_part t c =
    let some : 0 < length c.elements.rest.now = omega (arith, c.in_ok-part.ensures.less) in
    let p = err_from_is_err_and c.from_residual-in_err-add_part.result
    c.from_residual-in_err-add_part.ensures.1 in
    let faulty : Fails c.in_err-add_part.field-0.0
    (part_at c.args.depth (c.args.end - length c.in_ok-part.behind.now) c.in_ok-part.part.now) =
    rw c.place.ensures at c.in_err-add_part.ensures in
    rw (p.1, p.2) (from_nothing c.args.out.now c.in_err-add_part.field-0.0
    (elements_behind (part_at c.args.depth) c.args.end 0 c.args.bytes.now)
    (adds_end (part_at c.args.depth) c.args.end c.elements.rest.now c.in_ok-part.part.now
    c.in_ok-part.behind.now c.elements.out c.in_err-add_part.field-0.0 _
    (some_bytes c.elements.rest.now some) c.in_ok-part.ensures.value faulty c.elements.invariant))

pub add_elements-elements-preserved : goal.add_elements-elements-preserved
add_elements-elements-preserved t c =
    let some : 0 < length c.elements.rest.now = omega (arith, c.in_ok-part.ensures.less) in
    let read = rw c.place.ensures at c.in_ok-add_part.ensures in
    adds_on (part_at c.args.depth) c.args.end c.elements.rest.now c.in_ok-part.part.now
    c.in_ok-part.behind.now c.elements.out c.add_part.new.out _
    (some_bytes c.elements.rest.now some) c.in_ok-part.ensures.value read c.elements.invariant

pub add_elements-returns : goal.add_elements-returns
add_elements-returns t c =
    let none : length c.elements.rest.now ≡ 0 = grind (arith, common_steps) in
    added (part_at c.args.depth) c.args.end c.elements.rest.now c.elements.out _
    (nil_from_length c.elements.rest.now none) c.elements.invariant

pub add_part-returns-then-not-is_bundle : goal.add_part-returns-then-not-is_bundle
add_part-returns-then-not-is_bundle t c =
    let single : is_bundle c.args.bytes.now ≡ false = search rules in
    rw (part-single c.args.depth c.args.end c.args.bytes.now single) c.add_single.ensures

pub add_part-returns-then-depth-eq0 : goal.add_part-returns-then-depth-eq0
add_part-returns-then-depth-eq0 t c =
    let bundle : is_bundle c.args.bytes.now ≡ true = search rules in
    rw (part-deep c.args.depth c.args.end c.args.bytes.now bundle c.if-depth-eq0.true)
    (search rules)

pub add_part-returns-then-rest-lt8 : goal.add_part-returns-then-rest-lt8
add_part-returns-then-rest-lt8 t c =
    let bundle : is_bundle c.args.bytes.now ≡ true = search rules in
    rw (
      part-bundle c.args.depth c.args.end c.args.bytes.now bundle c.if-depth-eq0.false,
      bundle-short (part_at (c.args.depth - 1)) c.args.end (drop 8 c.args.bytes.now)
          (rw c.split_at.ensures.back at c.if-rest-lt8.true),
    ) (search rules)

pub add_part-returns : goal.add_part-returns
add_part-returns t c =
    let bundle : is_bundle c.args.bytes.now ≡ true = search rules in
    rw (
      part-bundle c.args.depth c.args.end c.args.bytes.now bundle c.if-depth-eq0.false,
      bundle-elements (part_at (c.args.depth - 1)) c.args.end (drop 8 c.args.bytes.now)
          (rw c.split_at.ensures.back at c.if-rest-lt8.false),
    )
    (rw (c.split_at-2.ensures.back, c.split_at.ensures.back) at c.add_elements.ensures)

-- why `build::build` answers as its contract says
use Rattle.std.proofs.Common.{◌≡◌, ◌∙◌, ◌+◌, suc, ap, ap₂, sym, arith, take, drop}
use Rattle.std.proofs.lemmas.List.{drop-drop}
use Rattle.sv_base.specs.Seen.{row_of}
use Rattle.sv_base.specs.Fields.{shape_of, fields_of}
use Rattle.sv_base.specs.declared.types.Parts.TheDeep.{size-TypeOf}
use Rattle.sv_base.proofs.SizeLaws.{most-parts-size-lt}
use Rattle.value_store.specs.Members.{leaves, leaves_in, value_with}
use Rattle.value_store.proofs.MemberLaws.{leaves_more}
use Rattle.node_reads.proofs.BuildLaws.{with_last, row-more, parts-more}
use Rattle.node_reads.proofs.build.+build.Goals as goal

pub build-build_parts-requires : goal.build-build_parts-requires
build-build_parts-requires t c = (omega (arith, c.decreases, ap size-TypeOf c.in-Struct.is, most-parts-size-lt c.as_slice.result.now c.in-Struct.parts c.as_slice.ensures.fields), tt)

pub build_parts-loop-part-preserved : goal.build_parts-loop-part-preserved
build_parts-loop-part-preserved t c =
    let all = c.args.rest.now.items in
    let before = take c.loop-part.part-index c.args.parts.now in
    let part = c.part-item.result in
    let next : c.loop-part.part-index + 1 ≡ suc c.loop-part.part-index = omega arith in
    let count = leaves_more c.args.parts.now c.loop-part.part-index part c.loop-part-test.true c.part-item.is in
    rw next (record {
      rest = c.in_ok-build.ensures.rest ∙ (ap (drop (leaves (shape_of part.kind))) c.loop-part.invariant.rest
          ∙ (drop-drop (leaves (shape_of part.kind)) (leaves_in (fields_of before)) all ∙ ap (λ n. drop n all) (sym count)));
      value = ap row_of c.in_ok-push.ensures.items ∙ (row-more c.loop-part.values.items c.in_ok-build.field-0
          ∙ (ap₂ with_last c.loop-part.invariant.value (c.in_ok-build.ensures.value ∙ ap (value_with (shape_of part.kind)) c.loop-part.invariant.rest)
          ∙ sym (parts-more c.args.parts.now c.loop-part.part-index part all c.loop-part-test.true c.part-item.is)));
    })

-- why `members::put` answers as its contract says
use Rattle.std.proofs.Common.{◌≡◌, ◌∙◌, ◌+◌, ℕ, suc, ap, ap₂, append_assoc, sym, subst, arith, length, take, drop, length-append, ◌++◌}
use Rattle.std.proofs.lemmas.List.{drop-drop, length-drop}
use Rattle.std.proofs.lemmas.List.Elements.{All-drop}
use Rattle.sv_base.specs.Data.{data_row, data_seen}
use Rattle.sv_base.specs.Fields.{shape_of, fields_of}
use Rattle.sv_base.specs.declared.types.Parts.TheDeep.{size-TypeOf}
use Rattle.sv_base.proofs.SizeLaws.{most-parts-size-lt}
use Rattle.mms_data.proofs.TypeLaws.{size-part-at}
use Rattle.value_store.specs.Members.{leaves, leaves_in, row_with, value_with, values_at, member_octets}
use Rattle.value_store.specs.Stored.{IsStored, AreStored}
use Rattle.value_store.specs.Written.{adds}
use Rattle.sv_base.specs.Filled.{Filled}
use Rattle.value_store.proofs.MemberLaws.{inside, content_is_shorter, values_after, part_within, leaves_left, leaves_more, row_more}
use Rattle.value_store.proofs.members.+put.Goals as goal

pub put_kind-put_parts-rest-requires : goal.put_kind-put_parts-rest-requires
put_kind-put_parts-rest-requires t c =
    let all = c.args.store.now in
    let within = inside c.args.kind.now c.in-Struct.parts c.as_slice.result.now (values_at all c.args.attrs.now) c.in-Struct.is c.as_slice.ensures.fields in
    let content = data_row (row_with (fields_of c.as_slice.result.now) (values_at all c.args.attrs.now)) in (
      omega (arith, c.decreases, ap size-TypeOf c.in-Struct.is, most-parts-size-lt c.as_slice.result.now c.in-Struct.parts c.as_slice.ensures.fields),
      (
        c.requires.there,
        (
          omega (arith, c.requires.enough, within.0),
          (
            omega (arith, c.requires.small, ap length within.1, content_is_shorter content),
            omega (arith, c.requires.room, ap length within.1, content_is_shorter content),
          ),
        ),
      ),
    )

pub put_parts-put_kind-rest-requires : goal.put_parts-put_kind-rest-requires
put_parts-put_kind-rest-requires t c =
    let all = c.args.store.now in
    let before = take c.loop-part.part-index c.args.parts.now in
    let values = values_at all c.args.attrs.now in
    let part = part_within c.args.parts.now c.loop-part.part-index c.part-item.result values c.loop-part-test.true c.part-item.is in
    let left = leaves_left c.args.parts.now c.loop-part.part-index c.part-item.result c.loop-part-test.true c.part-item.is in
    let octets : member_octets all c.part-item.result.kind c.loop-part.rest.now ≡ data_seen (value_with (shape_of c.part-item.result.kind) (drop (leaves_in (fields_of before)) values))
    = ap (λ vs. data_seen (value_with (shape_of c.part-item.result.kind) vs)) (ap (values_at all) c.loop-part.invariant.rest ∙ values_after all (leaves_in (fields_of before)) c.args.attrs.now) in
    let written = ap (λ (o : Filled ℕ). length o.items) c.loop-part.invariant.written in
    let room = ap (λ (o : Filled ℕ). o.room) c.loop-part.invariant.written in (
      omega (arith, c.decreases, size-part-at c.args.parts.now c.loop-part.part-index _ c.loop-part-test.true c.part-item.is),
      (
        subst (AreStored all) (sym c.loop-part.invariant.rest) (All-drop (IsStored all) (leaves_in (fields_of before)) c.args.attrs.now c.requires.there),
        (
          omega (arith, ap length c.loop-part.invariant.rest, length-drop (leaves_in (fields_of before)) c.args.attrs.now, left, c.requires.enough),
          (
            omega (arith, ap length octets, part, c.requires.small),
            omega (arith, ap length octets, part, c.requires.room, written, room, length-append c.args.out.now.items (data_row (row_with (fields_of before) values))),
          ),
        ),
      ),
    )

pub put_parts-loop-part-preserved : goal.put_parts-loop-part-preserved
put_parts-loop-part-preserved t c =
    let all = c.args.store.now in
    let before = take c.loop-part.part-index c.args.parts.now in
    let values = values_at all c.args.attrs.now in
    let next : c.loop-part.part-index + 1 ≡ suc c.loop-part.part-index = omega arith in
    let octets : member_octets all c.part-item.result.kind c.loop-part.rest.now ≡ data_seen (value_with (shape_of c.part-item.result.kind) (drop (leaves_in (fields_of before)) values))
    = ap (λ vs. data_seen (value_with (shape_of c.part-item.result.kind) vs)) (ap (values_at all) c.loop-part.invariant.rest ∙ values_after all (leaves_in (fields_of before)) c.args.attrs.now) in
    let more = row_more c.args.parts.now c.loop-part.part-index c.part-item.result values c.loop-part-test.true c.part-item.is in
    let count = leaves_more c.args.parts.now c.loop-part.part-index c.part-item.result c.loop-part-test.true c.part-item.is in
    rw next (record {
      rest = c.put_kind-rest.ensures.rest ∙ (ap (λ l. drop (leaves (shape_of c.part-item.result.kind)) l) c.loop-part.invariant.rest
          ∙ (drop-drop (leaves (shape_of c.part-item.result.kind)) (leaves_in (fields_of before)) c.args.attrs.now ∙ ap (λ n. drop n c.args.attrs.now) (sym count)));
      written = c.put_kind-rest.ensures.written ∙ (ap₂ adds c.loop-part.invariant.written octets
          ∙ ap (λ l. record { items = l; room = c.args.out.now.room }) (append_assoc c.args.out.now.items (data_row (row_with (fields_of before) values)) _ ∙ ap (λ l. c.args.out.now.items ++ l) (sym more)));
    })

-- why `entry_octets::put_all` answers as its contract says
use Rattle.std.proofs.Common.{◌∙◌, ◌+◌, ℕ, ap, sym, subst, arith}
use Rattle.std.proofs.lemmas.List.Elements.{All-get_or}
use Rattle.sv_base.specs.Filled.{Filled}
use Rattle.set_view.specs.Shapes.{no_shape}
use Rattle.report_block.specs.EntryOctets.{IsWritable, kept_with}
use Rattle.report_block.proofs.AllLaws.{all-more, put-few}
use Rattle.report_block.proofs.entry_octets.put_all.Goals as goal

pub loop-place-preserved : goal.loop-place-preserved
loop-place-preserved c =
    let place = c.loop-place.place in
    let put = ap (λ (f : Filled ℕ). f.items) c.put_mention.ensures in
    let writable = subst (IsWritable c.args.store.now) (sym c.member.ensures) (All-get_or (IsWritable c.args.store.now) c.args.set.now place no_shape (omega arith) c.requires.members) in
    record {
      rest = all-more c.args.store.now c.args.set.now c.args.reasons place _ c.loop-place.octets.items c.put_mention.new.octets.items c.member.result.now (omega arith) c.member.ensures put c.loop-place.invariant.rest;
      room = ap (λ (f : Filled ℕ). f.room) c.put_mention.ensures ∙ c.loop-place.invariant.room;
      short = put-few c.loop-place.octets.items c.put_mention.new.octets.items (kept_with c.args.store.now c.member.result.now (record { member = record { 0 = place + 1 }; reasons = c.args.reasons })) place put writable.small c.loop-place.invariant.short;
    }

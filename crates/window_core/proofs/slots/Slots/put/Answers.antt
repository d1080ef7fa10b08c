-- why `slots::Slots::put` answers as its contract says
use Rattle.std.proofs.Common.{ℕ, length-append, ◌≡◌, ◌-◌, ◌+◌, ◌<◌, ◌∙◌, ap, ap₂, sym, length, None, Some, is_some, slice_index_or, slice_set, arith}
use Rattle.std.proofs.lemmas.List.{length-set}
use Rattle.sv_base.specs.Filled.{Filled}
use Rattle.window_core.specs.Pieces.{is_there, insert}
use Rattle.window_core.specs.Slots.{Slotted, listed}
use Rattle.window_core.specs.declared.slots.Span.{Span}
use Rattle.window_core.proofs.SlotLaws.{there-at, free-of, room-left, put-total, put-spans, put-listed}
use Rattle.window_core.proofs.slots.Slots.put.Goals as goal

pub push-requires : goal.push-requires
push-requires c =
    let below : c.args.number - 1 < length c.self.inside.spans.items = omega (arith, c.requires.from, c.requires.to, ap (λ (v : Slotted). v.members) c.self.view_is) in
    let there : is_some (slice_index_or c.self.inside.spans.items (c.args.number - 1) None) ≡ is_there c.args.number c.args.self.now.pieces = sym (there-at 1 (c.args.number - 1) c.self.inside.spans.items c.self.inside.octets.items below) ∙ ap₂ is_there (omega (arith, c.requires.from)) (ap (λ (v : Slotted). v.pieces) c.self.view_is) in
    let none : slice_index_or c.self.inside.spans.items (c.args.number - 1) None ≡ None = free-of _ _ there c.requires.new in
    let left = room-left (length c.self.inside.octets.items) (c.args.number - 1) c.self.inside.spans.items below none c.self.invariant.3 in
    omega (arith, left, c.requires.short, c.self.invariant.1, c.self.invariant.2)

pub invariant_of-self : goal.invariant_of-self
invariant_of-self c =
    let below : c.args.number - 1 < length c.self.inside.spans.items = omega (arith, c.requires.from, c.requires.to, ap (λ (v : Slotted). v.members) c.self.view_is) in
    let there : is_some (slice_index_or c.self.inside.spans.items (c.args.number - 1) None) ≡ is_there c.args.number c.args.self.now.pieces = sym (there-at 1 (c.args.number - 1) c.self.inside.spans.items c.self.inside.octets.items below) ∙ ap₂ is_there (omega (arith, c.requires.from)) (ap (λ (v : Slotted). v.pieces) c.self.view_is) in
    let none : slice_index_or c.self.inside.spans.items (c.args.number - 1) None ≡ None = free-of _ _ there c.requires.new in
    let s : Span = record { at = c.len-at.result; len = length c.args.octets.now } in
    let count = length-set c.self.inside.spans.items (c.args.number - 1) (Some s) in
    let items : length c.push.new.self.items ≡ length c.self.inside.octets.items + length c.args.octets.now = ap length (ap (λ (f : Filled ℕ). f.items) c.push.ensures) ∙ length-append c.self.inside.octets.items c.args.octets.now in
    let room : c.push.new.self.room ≡ c.self.inside.octets.room = ap (λ (f : Filled ℕ). f.room) c.push.ensures in (
      omega (arith, count, c.self.invariant.0),
      omega (arith, count, c.self.invariant.1, room),
      omega (arith, items, put-total (c.args.number - 1) c.self.inside.spans.items s below none, c.self.invariant.2),
      put-spans (length c.self.inside.octets.items) (length c.push.new.self.items) (c.args.number - 1) c.self.inside.spans.items s below (omega (arith, items)) (omega (arith, items, c.len-at.ensures)) c.requires.short c.self.invariant.3,
    )

pub returns : goal.returns
returns c =
    let below : c.args.number - 1 < length c.self.inside.spans.items = omega (arith, c.requires.from, c.requires.to, ap (λ (v : Slotted). v.members) c.self.view_is) in
    let there : is_some (slice_index_or c.self.inside.spans.items (c.args.number - 1) None) ≡ is_there c.args.number c.args.self.now.pieces = sym (there-at 1 (c.args.number - 1) c.self.inside.spans.items c.self.inside.octets.items below) ∙ ap₂ is_there (omega (arith, c.requires.from)) (ap (λ (v : Slotted). v.pieces) c.self.view_is) in
    let none : slice_index_or c.self.inside.spans.items (c.args.number - 1) None ≡ None = free-of _ _ there c.requires.new in
    let count = length-set c.self.inside.spans.items (c.args.number - 1) (Some (record { at = c.len-at.result; len = length c.args.octets.now })) ∙ ap (λ (v : Slotted). v.members) c.self.view_is in
    let there_now = ap₂ (λ a o. listed 1 (slice_set c.self.inside.spans.items (c.args.number - 1) (Some (record { at = a; len = length c.args.octets.now }))) o) c.len-at.ensures (ap (λ (f : Filled ℕ). f.items) c.push.ensures)
    ∙ (put-listed 1 (c.args.number - 1) c.self.inside.spans.items c.self.inside.octets.items c.args.octets.now below none c.self.invariant.3
    ∙ ap₂ (λ n ps. insert (record { number = n; octets = c.args.octets.now }) ps) (omega (arith, c.requires.from)) (ap (λ (v : Slotted). v.pieces) c.self.view_is)) in
    ap₂ (λ m ps. record { members = m; pieces = ps }) count there_now

-- why `bay::Bay::write_attribute` answers as its contract says
use Rattle.std.proofs.Common.{◌<◌, ◌≡◌, ◌-◌, List, length, ap, sym, subst, arith}
use Rattle.std.specs.Prelude.{◌+◌}
use Rattle.bay_model.specs.Lookups.{attr_of}
use Rattle.bay_model.specs.Writes.{write_attribute}
use Rattle.setting_groups.proofs.FirstLaws.{settings-count}
use Rattle.value_store.specs.Stored.{Stored}
use Rattle.bay_replies.specs.Given.{copies_from}
use Rattle.bay_core.specs.Asked.{IsWrite}
use Rattle.bay_core.specs.State.{State}
use Rattle.bay_core.proofs.bay.Bay.write_attribute.Goals as goal

pub write_line-requires-clause-there : goal.write_line-requires-clause-there
write_line-requires-clause-there c =
    let s = c.self.inside in
    let from : c.saturating_sub-copies.result ≡ copies_from s.values s.groups = omega (arith, c.saturating_sub-copies.ensures, c.len.ensures, c.len-2.ensures, ap (λ (l : List Stored). length l) c.store.ensures) in
    subst (λ (t : State). c.args.attr.0 < copies_from t.stored t.groups) c.self.view_is (omega (arith, from, c.if-number-copies.true))

pub write_copy-requires-clause-there : goal.write_copy-requires-clause-there
write_copy-requires-clause-there c =
    let s = c.self.inside in
    let whole = c.self.invariant in
    let from : c.saturating_sub-copies.result ≡ copies_from s.values s.groups = omega (arith, c.saturating_sub-copies.ensures, c.len.ensures, c.len-2.ensures, ap (λ (l : List Stored). length l) c.store.ensures) in
    let there : c.args.attr.0 < length s.values = subst (λ (t : State). c.args.attr.0 < length t.stored) (sym c.self.view_is) c.requires.there in
    subst (λ (t : State). c.args.attr.0 - c.saturating_sub-copies.result < length t.groups.settings) c.self.view_is
    (omega (arith, from, there, c.if-number-copies.false, whole.furnished.values.count, settings-count s.model s.groups whole.grouped.framed))

pub returns-else-number-copies-clause-written : goal.returns-else-number-copies-clause-written
returns-else-number-copies-clause-written c =
    let s = c.self.inside in
    let from : c.saturating_sub-copies.result ≡ copies_from s.values s.groups = omega (arith, c.saturating_sub-copies.ensures, c.len.ensures, c.len-2.ensures, ap (λ (l : List Stored). length l) c.store.ensures) in
    let own : copies_from s.values s.groups ≡ copies_from c.args.self.now.stored c.args.self.now.groups = ap (λ (t : State). copies_from t.stored t.groups) c.self.view_is in
    let number : copies_from c.args.self.now.stored c.args.self.now.groups + (c.args.attr.0 - c.saturating_sub-copies.result) ≡ c.args.attr.0 = omega (arith, from, own, c.if-number-copies.false) in
    subst (λ k. IsWrite c.args.self.now c.write_copy.new.self (λ m past. write_attribute m c.args.a.0 k c.args.value.now (attr_of m k).access past) c.write_copy.result) number c.write_copy.ensures.written

-- A write of a component: the block that is written, the others, and the bay.
use Rattle.std.proofs.Common.{rules, ◌≡◌, ◌≢◌, ℕ, suc, max, Bool, true, false, List, [], ◌∷◌, Option, Some, None, is_some, Result, Ok, Err, refl, ap, ap₂, ◌∙◌, sym, subst, length, inl, inr}
use Rattle.std.specs.Prelude.{slice_get, slice_set, ◌==◌, ◌&&◌, ◌||◌, not}
use Rattle.std.specs.Option.{option_map_or}
use Rattle.std.proofs.lemmas.List.{set-get_or}
use Rattle.std.proofs.lemmas.List.Elements.{All-nil}
use Rattle.std.proofs.lemmas.Option.{get_or_from_slice_get}
use Rattle.list_laws.proofs.Places.{got-set, other-number}
use Rattle.sv_base.specs.declared.config.Config.{Config}
use Rattle.sv_base.specs.declared.numbers.AssocNo.{AssocNo}
use Rattle.sv_base.specs.declared.numbers.BlockNo.{BlockNo}
use Rattle.sv_base.specs.declared.value.Value.{Value}
use Rattle.sv_base.specs.declared.value.Value.TheVariants as kinds
use Rattle.bay_model.specs.declared.answer.Answer.TheVariants as answers
use Rattle.sv_base.specs.declared.components.Comp.{Comp}
use Rattle.sv_base.specs.declared.components.Comp.TheVariants as comps
use Rattle.bay_model.specs.declared.step.Step.TheVariants as steps
use Rattle.bay_model.specs.Model.{Model}
use Rattle.bay_model.specs.Notes.{all_members, no_reason}
use Rattle.bay_model.specs.Named.{configured_model}
use Rattle.bay_model.specs.Points.{Deed, Past, now, wrote}
use Rattle.bay_model.specs.Singles.{arrival}
use Rattle.bay_model.specs.Parameters.{is_interrogation, purges}
use Rattle.bay_model.specs.Associations.{address}
use Rattle.bay_model.specs.Breaks.{cuts, is_empty}
use Rattle.bay_model.specs.Sets.{sets, set_referred}
use Rattle.bay_model.specs.BlockWrites.{write_component}
use Rattle.bay_model.specs.Outcomes.{deed_of, code_of}
use Rattle.bay_model.specs.Answers.{History, points, answer}
use Rattle.bay_model.specs.Acceptance.{fault}
use Rattle.assoc_table.specs.declared.waiting.Ends.{Ends}
use Rattle.assoc_table.specs.Standing.{HasAddress}
use Rattle.assoc_table.specs.Tables.{IsNumber, row_of}
use Rattle.brcb_state.specs.Changes.{effect_of, written}
use Rattle.brcb_state.specs.Refusals.{answer_to, is_foreign, names_nothing, first_of, refusals}
use Rattle.brcb_state.specs.Standing.{outcome_of, after_deed, kept_at, is_known, is_general, is_purging}
use Rattle.brcb_state.specs.declared.block.Block.{Block}
use Rattle.brcb_state.specs.declared.told.Effect.{Effect}
use Rattle.brcb_state.specs.declared.told.Retained.{Retained}
use Rattle.brcb_state.proofs.AnswerLaws.{answered}
use Rattle.window_core.specs.Pieces.{Piece}
use Rattle.window_core.specs.Points.{at}
use Rattle.window_core.proofs.DeedLaws.{unbroken-unchanged}
use Rattle.report_block.specs.declared.block.ReportBlock.{ReportBlock}
use Rattle.report_block.specs.Coming.{AreOf, untouched, window_after}
use Rattle.report_block.specs.Components.{after_writing}
use Rattle.report_block.specs.Offers.{retained_of}
use Rattle.report_block.specs.Standing.{IsMemberKept, Stands as BlockStands, BlocksStand}
use Rattle.report_block.specs.Writes.{set_after, write_answer, without_effect}
use Rattle.report_block.proofs.PlainLaws.{write-any-stands}
use Rattle.report_block.proofs.StandLaws.{deed-stands}
use Rattle.data_sets.specs.Books.{Book, number_referred}
use Rattle.data_sets.specs.Standing.{IsNamed}
use Rattle.bay_core.specs.Put.{IsOpenAt, owner_at}
use Rattle.bay_core.specs.State.{State}
use Rattle.bay_core.specs.Standing.{StandsAt, StandsFor}
use Rattle.bay_core.specs.Written.{named_by}
use Rattle.block_watch.proofs.BookLaws.{known-booked}
use Rattle.block_watch.proofs.ShapeLaws.{sets_in}
use Rattle.block_watch.proofs.WatchLaws.{KeepsSet}
use Rattle.bay_core.proofs.MoveLaws.{came-of, counts, accepted-as, groups-quiet}
use Rattle.list_laws.proofs.Truths.{never, or-right}

-- the effect of an accepted write
effect-told : (ts : List (Bool × ℕ)) (effect e : Effect) → first_of ts effect ≡ Ok e → e ≡ effect
effect-told [] effect e is = cc
effect-told ((true, code) ∷ ts) effect e is = cc
effect-told ((false, code) ∷ ts) effect e is = effect-told ts effect e is

-- and none of its tests is true
abbrev AreFalse : List (Bool × ℕ) → Type 0
AreFalse [] = Unit {0}
AreFalse (t ∷ ts) = (t.0 ≡ false) × AreFalse ts

all-passed : (ts : List (Bool × ℕ)) (effect e : Effect) → first_of ts effect ≡ Ok e → AreFalse ts
all-passed [] effect e is = tt
all-passed ((true, code) ∷ ts) effect e is = cc
all-passed ((false, code) ∷ ts) effect e is = (refl, all-passed ts effect e is)

empty-is : (t : List ℕ) → is_empty t ≡ true → t ≡ []
empty-is [] is = refl
empty-is (o ∷ t) is = cc

known-or-empty : (book : Book) (t : List ℕ) (named : Option ℕ) → named ≡ number_referred t book → (not (is_empty t) && not (is_some named)) ≡ false → IsNamed book t
known-or-empty book t named is passes = by (is_empty t) (is_some named) refl refl passes where
  by : (x y : Bool) → is_empty t ≡ x → is_some named ≡ y → (not x && not y) ≡ false → IsNamed book t
  by true y empty some h = inl (empty-is t empty)
  by false true empty some h = inr (ap is_some (sym is) ∙ some)
  by false false empty some h = cc

-- a written DatSet has the number of a set exactly where it names one of the model's
known-told : (c : Config) (past : Past) (book : Book) (kept : Retained) (comp : Comp) (v : Value) → sets_in book ≡ sets (configured_model c) past
    → names_nothing kept (is_some (named_by comp v book)) comp v ≡ names_nothing kept (is_known (configured_model c) past v) comp v
known-told c past book kept comps.DatSet (kinds.Text t) same = ap (λ k. not (is_empty t) && not k) (known-booked t book ∙ ap (λ all. is_some (set_referred t all)) same)
known-told c past book kept comps.DatSet _ same = refl
known-told c past book kept _ v same = refl

other-purges : (m : Model) (a b k : ℕ) (comp : Comp) (v : Value) (past : Past) → (b == k) ≡ false → purges m k (wrote a b comp v) past ≡ false
other-purges m a b k comp v past other = search rules

other-interrogation : (a b k : ℕ) (comp : Comp) (v : Value) → (b == k) ≡ false → is_interrogation k (wrote a b comp v) ≡ false
other-interrogation a b k comp v other = search rules

-- ---- the block that is written, and the others

-- the write, for block b
abbrev pub deed : ℕ → AssocNo → Comp → Value → Deed
deed b a comp v = wrote a.0 b comp v

-- all members, with their values, where it is a general interrogation
abbrev pub AreAll : Model → ℕ → ℕ → ℕ → AssocNo → Comp → Value → Past → List Piece → Type 0
AreAll m n t b a comp v past all = AreOf all (all_members m b (record no_reason { gi = true }) past (at n t (deed b a comp v) ∷ past))

module _ (m : Model) (n t b : ℕ) (a : AssocNo) (owner : List ℕ) (comp : Comp) (v : Value) (named : Option ℕ) (past : Past) (from : owner ≡ address a.0 past) where
  other-cuts : (k : ℕ) → (b == k) ≡ false → cuts m k (deed b a comp v) past ≡ false
  other-cuts k other = rw (other-interrogation a.0 b k comp v other, other-purges m a.0 b k comp v past other) refl

  part-wrote : (part : ReportBlock) (all : List Piece) (e : Effect) → AreAll m n t b a comp v past all → BlockStands part m b (arrival n t ∷ past) → write_answer a owner (max t (now past)) comp v named part ≡ Ok e
      → BlockStands (after_writing a owner comp v named (max t (now past)) n all part (Ok e)) m b (at n t (deed b a comp v) ∷ past)
  part-wrote part all e are st is = write-any-stands m b t n past part a owner comp v named e all from
      (effect-told (refusals a (is_foreign owner (max t (now past)) part.block) comp v (names_nothing (retained_of part) (is_some named) comp v) part.block) (effect_of comp v part.block) e is) (λ general. are) st

  part-other : (k : ℕ) (part : ReportBlock) → k ≢ b → BlockStands part m k (arrival n t ∷ past) → BlockStands part m k (at n t (deed b a comp v) ∷ past)
  part-other k part h st =
      let other = other-number b k h in
      let d = deed b a comp v in
      let same : after_deed k d part.ring.front (max t (now past)) owner part.block ≡ part.block = rw other refl in
      subst (λ s. BlockStands (record part { block = s }) m k (at n t d ∷ past)) same
      (deed-stands m k t n d past part (record untouched { owner = owner }) st (record {
        address = from;
        opens = tt;
        note = record { are = refl; readable = All-nil IsMemberKept };
        general = sym (other-interrogation a.0 b k comp v other);
        all = λ is. never (sym (other-interrogation a.0 b k comp v other) ∙ is);
        purge = sym (other-purges m a.0 b k comp v past other);
        change = sym (unbroken-unchanged m k t n past d (other-cuts k other));
      }))

  parts-wrote : (parts : List ReportBlock) (part : ReportBlock) (all : List Piece) (e : Effect) → slice_get parts b ≡ Some part → AreAll m n t b a comp v past all → BlocksStand m (arrival n t ∷ past) parts → write_answer a owner (max t (now past)) comp v named part ≡ Ok e
      → BlocksStand m (at n t (deed b a comp v) ∷ past) (slice_set parts b (after_writing a owner comp v named (max t (now past)) n all part (Ok e)))
  parts-wrote parts part all e there are st is = λ k x got. elim (got-set parts b k (after_writing a owner comp v named (max t (now past)) n all part (Ok e)) x got) [
    | inl i ↦ subst (λ j. BlockStands x m j (at n t (deed b a comp v) ∷ past)) (sym i.0) (subst (λ q. BlockStands q m b (at n t (deed b a comp v) ∷ past)) (sym i.1) (part-wrote part all e are (st b part there) is))
    | inr i ↦ part-other k x i.0 (st k x i.1)
  ]

  -- what comes of the write is what the block answered
  outcome-told : (part : ReportBlock) → names_nothing (retained_of part) (is_some named) comp v ≡ names_nothing (retained_of part) (is_known m (arrival n t ∷ past) v) comp v
      → BlockStands part m b (arrival n t ∷ past) → outcome_of (deed b a comp v) (write_answer a owner (max t (now past)) comp v named part) ≡ write_component m a.0 b comp v (arrival n t ∷ past)
  outcome-told part known st =
      let after : Past = arrival n t ∷ past in
      let kept : retained_of part ≡ kept_at m b after = ap₂ (λ f l. record { front = f; len = l }) st.ring.front st.ring.newest in
      let names : names_nothing (retained_of part) (is_some named) comp v ≡ names_nothing (kept_at m b after) (is_known m after v) comp v
      = known ∙ ap (λ k. names_nothing k (is_known m after v) comp v) kept in
      ap₂ (λ (o : List ℕ) (x : Bool). outcome_of (deed b a comp v) (answer_to a (is_foreign o (now after) part.block) comp v x part.block)) from names ∙ answered m a b comp v after part.block st.block

-- ---- the bay

-- the state after a write that was answered so, from that at its arrival
abbrev pub behind : State → ℕ → ReportBlock → State
behind z b part = record z { parts = slice_set z.parts b part }

unchanged : (parts : List ReportBlock) (b : ℕ) (part : ReportBlock) → slice_get parts b ≡ Some part → slice_set parts b part ≡ parts
unchanged parts b part there = ap (slice_set parts b) (sym (get_or_from_slice_get parts b part part there)) ∙ set-get_or parts b part

-- where a is open, the address from which it was opened is that of the definitions
pub owner-told : (z : State) (c : Config) (n a : ℕ) (past : Past) → IsNumber a → IsOpenAt z a → StandsAt z c n past → owner_at a z ≡ address a past
owner-told z c n a past number open_ st = by (row_of z.rows a).ends open_ (st.associations.each a number).owner where
  by : (e : Option Ends) → is_some e ≡ true → HasAddress e (address a past) → option_map_or (λ (x : Ends). x.owner) e [] ≡ address a past
  by None some has = cc
  by (Some e) some has = has

module _ (z : State) (c : Config) (n t b : ℕ) (a : AssocNo) (number : IsNumber a.0) (open_ : IsOpenAt z a.0) (comp : Comp) (v : Value) (named : Option ℕ) (all : List Piece) (past : Past) (part : ReportBlock) (there : slice_get z.parts b ≡ Some part)
    (are : AreAll (configured_model c) n t b a comp v past all) (here : StandsAt z c n (arrival n t ∷ past)) where
  from : owner_at a.0 z ≡ address a.0 past
  from = owner-told z c n a.0 (arrival n t ∷ past) number open_ here

  wrote-at : (e : Effect) → write_answer a (owner_at a.0 z) z.latest comp v named part ≡ Ok e → StandsAt (behind z b (after_writing a (owner_at a.0 z) comp v named z.latest z.steps all part (Ok e))) c n (at n t (deed b a comp v) ∷ past)
  wrote-at e is =
      let set = parts-wrote (configured_model c) n t b a (owner_at a.0 z) comp v named past from z.parts part all e there are here.blocks (subst (λ now. write_answer a (owner_at a.0 z) now comp v named part ≡ Ok e) here.is_latest is) in
      came-of z c n t (deed b a comp v) past z.stored _ z.groups (record { number = tt; puts = λ k. refl; sets = refl }) here.values
      (subst (BlocksStand (configured_model c) (at n t (deed b a comp v) ∷ past)) (ap₂ (λ (now step : ℕ). slice_set z.parts b (after_writing a (owner_at a.0 z) comp v named now step all part (Ok e))) (sym here.is_latest) (sym here.is_steps)) set) (groups-quiet z c n t (deed b a comp v) past tt here) here

  refused-at : StandsAt (behind z b part) c n (arrival n t ∷ past)
  refused-at = subst (λ ps. StandsAt (record z { parts = ps }) c n (arrival n t ∷ past)) (sym (unchanged z.parts b part there)) here

  written-at : (r : Result Effect ℕ) → write_answer a (owner_at a.0 z) z.latest comp v named part ≡ r
      → StandsAt (behind z b (after_writing a (owner_at a.0 z) comp v named z.latest z.steps all part r)) c n (at n t (deed_of (outcome_of (deed b a comp v) r)) ∷ past)
  written-at (Ok e) is = wrote-at e is
  written-at (Err code) is = refused-at

answered-code : (k b : ℕ) (comp : Comp) (v : Value) (r : Result Effect ℕ) → code_of (outcome_of (wrote k b comp v) r) ≡ without_effect r
answered-code k b comp v (Ok e) = refl
answered-code k b comp v (Err code) = refl

-- a write of a component, from the state at its arrival: what it is answered, and what the state then stands for
pub component-wrote : (z : State) (c : Config) (n t b : ℕ) (a : AssocNo) (comp : Comp) (v : Value) (named : Option ℕ) (all : List Piece) (past : Past) (part : ReportBlock)
    → IsNumber a.0 → IsOpenAt z a.0 → named ≡ named_by comp v z.book → slice_get z.parts b ≡ Some part → AreAll (configured_model c) n t b a comp v past all
    → StandsAt z c n (arrival n t ∷ past)
    → (without_effect (write_answer a (owner_at a.0 z) z.latest comp v named part) ≡ code_of (write_component (configured_model c) a.0 b comp v (arrival n t ∷ past)))
    × StandsAt (behind z b (after_writing a (owner_at a.0 z) comp v named z.latest z.steps all part (write_answer a (owner_at a.0 z) z.latest comp v named part))) c n (at n t (deed_of (write_component (configured_model c) a.0 b comp v (arrival n t ∷ past))) ∷ past)
component-wrote z c n t b a comp v named all past part number open_ is_named there are here =
    let known = ap (λ k. names_nothing (retained_of part) (is_some k) comp v) is_named ∙ known-told c (arrival n t ∷ past) z.book (retained_of part) comp v here.sets in
    let answer : ℕ → Result Effect ℕ = λ now. write_answer a (owner_at a.0 z) now comp v named part in
    let told = ap (λ now. outcome_of (deed b a comp v) (answer now)) here.is_latest
    ∙ outcome-told (configured_model c) n t b a (owner_at a.0 z) comp v named past (owner-told z c n a.0 (arrival n t ∷ past) number open_ here) part known (here.blocks b part there) in
    let after : State = behind z b (after_writing a (owner_at a.0 z) comp v named z.latest z.steps all part (write_answer a (owner_at a.0 z) z.latest comp v named part)) in (
      sym (ap code_of (sym told) ∙ answered-code a.0 b comp v (write_answer a (owner_at a.0 z) z.latest comp v named part)),
      subst (λ o. StandsAt after c n (at n t (deed_of o) ∷ past)) told (written-at z c n t b a number open_ comp v named all past part there are here (write_answer a (owner_at a.0 z) z.latest comp v named part) refl),
    )

-- a write at the end of a history; the second state is that at its arrival
pub wrote-for : (s z u : State) (c : Config) (h : History) (t actor : ℕ) (b : BlockNo) (a : AssocNo) (comp : Comp) (v : Value) (named : Option ℕ) (all : List Piece) (part : ReportBlock)
    → IsNumber a.0 → IsOpenAt z a.0 → named ≡ named_by comp v z.book → slice_get z.parts b.0 ≡ Some part → AreAll (configured_model c) (length h) t b.0 a comp v (points (configured_model c) h) all
    → StandsAt z c (length h) (arrival (length h) t ∷ points (configured_model c) h) → StandsFor s c h
    → fault (configured_model c) h (record { moment = t; actor = actor; step = steps.Write a b comp v }) ≡ None
    → u ≡ record (behind z b.0 (after_writing a (owner_at a.0 z) comp v named z.latest z.steps all part (write_answer a (owner_at a.0 z) z.latest comp v named part))) { steps = suc z.steps }
    → (answers.Wrote (without_effect (write_answer a (owner_at a.0 z) z.latest comp v named part)) ≡ answer (configured_model c) h (record { moment = t; actor = actor; step = steps.Write a b comp v }))
    × StandsFor u c (record { moment = t; actor = actor; step = steps.Write a b comp v } ∷ h)
wrote-for s z u c h t actor b a comp v named all part number open_ is_named there are here st none is =
    let past : Past = points (configured_model c) h in
    let n : ℕ = length h in
    let wrote = component-wrote z c n t b.0 a comp v named all past part number open_ is_named there are here in
    let after : State = behind z b.0 (after_writing a (owner_at a.0 z) comp v named z.latest z.steps all part (write_answer a (owner_at a.0 z) z.latest comp v named part)) in
    let d : Deed = deed_of (write_component (configured_model c) a.0 b.0 comp v (arrival n t ∷ past)) in (
      ap answers.Wrote wrote.0,
      accepted-as s u (record after { steps = suc z.steps }) c h (record { moment = t; actor = actor; step = steps.Write a b comp v }) st none is (counts after c n (at n t d ∷ past) wrote.1),
    )

-- ---- the data set of the block that is written

keeps : (comp : Comp) (named was : Option ℕ) → KeepsSet comp was (set_after comp named was)
keeps comps.DatSet named was = tt
keeps _ named was = refl

keeps-none : (comp : Comp) (was : Option ℕ) → KeepsSet comp was was
keeps-none comps.DatSet was = tt
keeps-none _ was = refl

module _ (now step : ℕ) (a : AssocNo) (owner : List ℕ) (comp : Comp) (v : Value) (named : Option ℕ) (all : List Piece) (part : ReportBlock) where
  -- other components leave its number
  pub keeps-set : (r : Result Effect ℕ) → KeepsSet comp part.set (after_writing a owner comp v named now step all part r).set
  keeps-set (Ok e) = keeps comp named part.set
  keeps-set (Err code) = keeps-none comp part.set

  -- the number is that of the set which the DatSet names
  pub has-set : (book : Book) (r : Result Effect ℕ) → part.set ≡ number_referred part.block.options.dat_set book → named ≡ named_by comp v book → write_answer a owner now comp v named part ≡ r
      → (after_writing a owner comp v named now step all part r).set ≡ number_referred (after_writing a owner comp v named now step all part r).block.options.dat_set book
  has-set book (Err code) has is answer = has
  has-set book (Ok e) has is answer = by comp v named is answer where
    by : (comp : Comp) (v : Value) (named : Option ℕ) → named ≡ named_by comp v book → write_answer a owner now comp v named part ≡ Ok e → set_after comp named part.set ≡ number_referred (written a owner now comp v part.ring.front part.block).options.dat_set book
    by comps.DatSet (kinds.Text t) named is answer = is
    by comps.DatSet _ named is answer = cc
    by comps.RptEna (kinds.Bool on) named is answer = has
    by comps.RptEna _ named is answer = has
    by comps.EntryID (kinds.Octets o) named is answer = has
    by comps.EntryID _ named is answer = has
    by comps.RptID (kinds.Text t) named is answer = has
    by comps.RptID _ named is answer = has
    by comps.OptFlds (kinds.Bits t) named is answer = has
    by comps.OptFlds _ named is answer = has
    by comps.BufTm (kinds.Uint n) named is answer = has
    by comps.BufTm _ named is answer = has
    by comps.TrgOps (kinds.Bits t) named is answer = has
    by comps.TrgOps _ named is answer = has
    by comps.IntgPd (kinds.Uint n) named is answer = has
    by comps.IntgPd _ named is answer = has
    by _ v named is answer = has

  -- which is empty or names a set
  pub has-named : (book : Book) (r : Result Effect ℕ) → IsNamed book part.block.options.dat_set → named ≡ named_by comp v book → write_answer a owner now comp v named part ≡ r
      → IsNamed book (after_writing a owner comp v named now step all part r).block.options.dat_set
  has-named book (Err code) has is answer = has
  has-named book (Ok e) has is answer = by comp v named is answer where
    by : (comp : Comp) (v : Value) (named : Option ℕ) → named ≡ named_by comp v book → write_answer a owner now comp v named part ≡ Ok e → IsNamed book (written a owner now comp v part.ring.front part.block).options.dat_set
    by comps.DatSet (kinds.Text t) named is answer =
        let passed = all-passed (refusals a (is_foreign owner now part.block) comps.DatSet (kinds.Text t) (names_nothing (retained_of part) (is_some named) comps.DatSet (kinds.Text t)) part.block) (effect_of comps.DatSet (kinds.Text t) part.block) e answer in
        known-or-empty book t named is (or-right _ _ passed.1.1.1.1.0)
    by comps.DatSet _ named is answer = cc
    by comps.RptEna (kinds.Bool on) named is answer = has
    by comps.RptEna _ named is answer = has
    by comps.EntryID (kinds.Octets o) named is answer = has
    by comps.EntryID _ named is answer = has
    by comps.RptID (kinds.Text t) named is answer = has
    by comps.RptID _ named is answer = has
    by comps.OptFlds (kinds.Bits t) named is answer = has
    by comps.OptFlds _ named is answer = has
    by comps.BufTm (kinds.Uint n) named is answer = has
    by comps.BufTm _ named is answer = has
    by comps.TrgOps (kinds.Bits t) named is answer = has
    by comps.TrgOps _ named is answer = has
    by comps.IntgPd (kinds.Uint n) named is answer = has
    by comps.IntgPd _ named is answer = has
    by _ v named is answer = has

  -- the memory of what is gathered stays
  pub windows-stay : (r : Result Effect ℕ) → (after_writing a owner comp v named now step all part r).window.members ≡ part.window.members
  windows-stay (Err code) = refl
  windows-stay (Ok e) = by (is_general e || is_purging e) where
    by : (t : Bool) → (window_after t now [] (written a owner now comp v part.ring.front part.block).options.buf_tm part.window).members ≡ part.window.members
    by true = refl
    by false = refl

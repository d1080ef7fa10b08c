-- A point that opens or loses an association, from its arrival.
use Rattle.std.proofs.Common.{◌≡◌, ℕ, suc, max, Bool, true, false, List, ◌∷◌, Option, None, Some, refl, ap, arith, sym, subst, ◌∙◌, ◌⊎◌}
use Rattle.std.specs.Prelude.{if◌then◌else◌, is_some, ◌==◌, ◌||◌}
use Rattle.std.specs.Option.{option_map}
use Rattle.std.proofs.lemmas.Bool.Decides.{nat_tests}
use Rattle.list_laws.proofs.Options.{some_is}
use Rattle.list_laws.proofs.Places.{got-map}
use Rattle.list_laws.proofs.Truths.{never}
use Rattle.sv_base.specs.declared.config.Config.{Config}
use Rattle.sv_base.specs.declared.numbers.AssocNo.{AssocNo}
use Rattle.sv_base.specs.declared.numbers.ActorNo.{ActorNo}
use Rattle.bay_model.specs.Model.{Model}
use Rattle.bay_model.specs.Named.{configured_model}
use Rattle.bay_model.specs.Answers.{History, points}
use Rattle.bay_model.specs.Blocks.{is_enabled_by}
use Rattle.bay_model.specs.Points.{Point, Past, now, opened, lost}
use Rattle.bay_model.specs.Singles.{arrival}
use Rattle.bay_model.specs.Associations as model
use Rattle.bay_model.specs.Associations.{ends}
use Rattle.bay_model.specs.Acceptance.{IsHistory, IsOpen, if_open}
use Rattle.assoc_table.specs.declared.waiting.Ends.{Ends}
use Rattle.assoc_table.specs.Seats.{Row}
use Rattle.assoc_table.specs.Tables.{IsNumber, row_of, started, ended}
use Rattle.assoc_table.specs.Standing.{Stands as AssociationsStand, ends_of}
use Rattle.control_core.specs.Tables.{after_deed}
use Rattle.window_core.specs.Points.{at}
use Rattle.setting_groups.specs.Grouped.{after_loss}
use Rattle.setting_groups.proofs.StandLaws.{arrived, loses}
use Rattle.report_block.specs.Writes.{lost_by}
use Rattle.block_events.specs.Parting.{after_loss_all}
use Rattle.block_events.proofs.PartLaws.{AreLeft}
use Rattle.bay_model.proofs.ReservationLaws.{enablers_are_open}
use Rattle.bay_core.specs.State.{State}
use Rattle.bay_core.specs.Standing.{StandsAt}
use Rattle.bay_core.proofs.MoveLaws.{groups-quiet, passed}

-- ---- the ends of an association

pub open-told : (m : Model) (rows : List Row) (past : Past) (a : ℕ) → AssociationsStand rows m past → IsNumber a → is_some (row_of rows a).ends ≡ is_some (ends a past)
open-told m rows past a st number = by (row_of rows a).ends (ends a past) (st.each a number).ends where
  by : (e : Option Ends) (f : Option model.Ends) → option_map ends_of e ≡ f → is_some e ≡ is_some f
  by None f is = ap is_some is
  by (Some e) f is = ap is_some is

-- whom somebody opened is open
pub opened-by : (rows : List Row) (a : ℕ) (opener : ActorNo) → option_map (λ (e : Ends). e.opener) (row_of rows a).ends ≡ Some opener → is_some (row_of rows a).ends ≡ true
opened-by rows a opener is = by (row_of rows a).ends is where
  by : (x : Option Ends) → option_map (λ (e : Ends). e.opener) x ≡ Some opener → is_some x ≡ true
  by None is = cc
  by (Some e) is = refl

-- opened by the one, with the other to take for it
pub ends-told : (m : Model) (rows : List Row) (past : Past) (a : ℕ) (opener writer : ActorNo) → AssociationsStand rows m past → IsNumber a
    → option_map (λ (e : Ends). e.opener) (row_of rows a).ends ≡ Some opener → option_map (λ (e : Ends). e.writer) (row_of rows a).ends ≡ Some writer
    → (e : model.Ends) × (ends a past ≡ Some e) × (e.opener ≡ opener.0) × (e.writer ≡ writer.0)
ends-told m rows past a opener writer st number one other = by (row_of rows a).ends (ends a past) (st.each a number).ends one other where
  by : (e : Option Ends) (f : Option model.Ends) → option_map ends_of e ≡ f → option_map (λ (x : Ends). x.opener) e ≡ Some opener → option_map (λ (x : Ends). x.writer) e ≡ Some writer
      → (g : model.Ends) × (f ≡ Some g) × (g.opener ≡ opener.0) × (g.writer ≡ writer.0)
  by None f is one other = cc
  by (Some e) f is one other = (ends_of e, sym is, ap (λ (o : ActorNo). o.0) (some_is e.opener opener one), ap (λ (o : ActorNo). o.0) (some_is e.writer writer other))

-- ---- opened

abbrev pub opening : ℕ → ℕ → ℕ → Ends → Point
opening n t a e = at n t (opened a e.opener.0 e.writer.0 e.size e.owner)

pub opened-at : (s : State) (c : Config) (n t a : ℕ) (e : Ends) (past : Past) → IsNumber a → ((b : ℕ) → is_enabled_by b a past ≡ false) → StandsAt s c n (arrival n t ∷ past)
    → StandsAt (record s { steps = suc s.steps; rows = started s.rows a e }) c (suc n) (opening n t a e ∷ past)
opened-at s c n t a e past number none st = passed s c n t (opened a e.opener.0 e.writer.0 e.size e.owner) past s.parts s.groups (record { number = number; puts = λ k. refl; sets = refl }) (λ x. refl)
    (record { address = refl; opens = none; note = λ b. refl; cuts = λ b. refl }) (λ b q there. (q, there, refl)) (groups-quiet s c n t (opened a e.opener.0 e.writer.0 e.size e.owner) past tt st) st

-- whoever isn't open has enabled no block
pub none-enabled : (m : Model) (h : History) (a : ℕ) → IsHistory m h → is_some (ends a (points m h)) ≡ false → (b : ℕ) → is_enabled_by b a (points m h) ≡ false
none-enabled m h a is shut b = by (is_enabled_by b a (points m h)) refl where
  by : (x : Bool) → is_enabled_by b a (points m h) ≡ x → x ≡ false
  by true mine = absurd (never (sym shut ∙ enablers_are_open m h b a is mine))
  by false mine = refl

-- ---- lost

abbrev pub losing : ℕ → ℕ → ℕ → Point
losing n t a = at n t (lost a)

pub lost-at : (s : State) (c : Config) (n t : ℕ) (a : AssocNo) (past : Past) → IsNumber a.0 → StandsAt s c n (arrival n t ∷ past)
    → StandsAt (record s { steps = suc s.steps; parts = after_loss_all a s.latest s.parts; rows = ended s.rows a.0; groups = after_loss a.0 s.groups; controls = after_deed (lost a.0) s.controls }) c (suc n) (losing n t a.0 ∷ past)
lost-at s c n t a past number st = passed s c n t (lost a.0) past (after_loss_all a s.latest s.parts) (after_loss a.0 s.groups) (record { number = number; puts = λ k. refl; sets = refl }) (λ x. refl)
    (record { address = refl; opens = λ b. tt; note = λ b. refl; cuts = λ b. refl }) left (loses (configured_model c) past n t s.groups (arrived (configured_model c) past n t s.groups st.groups) a.0) st
  where
    left : AreLeft (lost a.0) (max t (now past)) s.parts (after_loss_all a s.latest s.parts)
    left = subst (λ m. AreLeft (lost a.0) m s.parts (after_loss_all a s.latest s.parts)) st.is_latest (got-map (lost_by a s.latest) s.parts)

-- ---- why an opening or a loss is refused

-- nobody but the opener and the writer may end it
pub lost-fault : (m : Model) (past : Past) (actor a : ℕ) (e : model.Ends) → ends a past ≡ Some e → ((actor == e.opener) || (actor == e.writer)) ≡ true
    → if_open (ends a past) a (λ e. (actor == e.opener) || (actor == e.writer)) None ≡ None
lost-fault m past actor a e is yours = rw (is, yours) refl

pub yours-told : (x o w : ℕ) → (((x ≡ o) → ⊥) × (x ≡ w)) ⊎ (x ≡ o) → ((x == o) || (x == w)) ≡ true
yours-told x o w is = grind (arith, nat_tests, is)

pub open-fault : (past : Past) (a : ℕ) → is_some (ends a past) ≡ false → (if is_some (ends a past) then Some (IsOpen a) else None) ≡ None
open-fault past a shut = rw shut refl

-- the opener alone may write for it
pub opener-told : (m : Model) (rows : List Row) (past : Past) (a : ℕ) (opener : ActorNo) → AssociationsStand rows m past → IsNumber a
    → option_map (λ (e : Ends). e.opener) (row_of rows a).ends ≡ Some opener → (e : model.Ends) × (ends a past ≡ Some e) × (e.opener ≡ opener.0)
opener-told m rows past a opener st number one = by (row_of rows a).ends (ends a past) (st.each a number).ends one where
  by : (e : Option Ends) (f : Option model.Ends) → option_map ends_of e ≡ f → option_map (λ (x : Ends). x.opener) e ≡ Some opener → (g : model.Ends) × (f ≡ Some g) × (g.opener ≡ opener.0)
  by None f is one = cc
  by (Some e) f is one = (ends_of e, sym is, ap (λ (o : ActorNo). o.0) (some_is e.opener opener one))

pub opener-fault : (past : Past) (actor a : ℕ) (e : model.Ends) → ends a past ≡ Some e → (actor == e.opener) ≡ true → if_open (ends a past) a (λ f. actor == f.opener) None ≡ None
opener-fault past actor a e is yours = rw (is, yours) refl

-- The numbers of an entry's members ascend, up to the number of members of the data set that its block still has.
use Rattle.std.proofs.Common.{◌≡◌, ℕ, zero, suc, ◌+◌, ◌<◌, ◌≤◌, Bool, true, false, not, ◌&&◌, ◌||◌, List, [], ◌∷◌, ◌++◌, length, refl, sym, ap, subst, arith}
use Rattle.std.specs.Prelude.{◌==◌, nat_lt, Some, slice_get, if◌then◌else◌}
use Rattle.std.specs.List.{list_any}
use Rattle.std.specs.Str.{bytes_eq}
use Rattle.std.proofs.lemmas.Bool.{ltb-true, ltb-false, eqb-false, ne_eqb}
use Rattle.list_laws.proofs.Among.{Each}
use Rattle.list_laws.proofs.Distinct.{octets_same}
use Rattle.list_laws.proofs.Truths.{not-false, not-true, or-left, or-right, and-left, and-right}
use Rattle.sv_base.specs.Data.{data_of}
use Rattle.sv_base.specs.declared.components.Comp.{Comp}
use Rattle.sv_base.specs.declared.components.Comp.TheVariants as comps
use Rattle.sv_base.specs.declared.value.Value.{Value}
use Rattle.sv_base.specs.declared.value.Value.TheVariants as kinds
use Rattle.bay_model.specs.declared.report.Reasons.{Reasons}
use Rattle.bay_model.specs.Breaks.{breaks, cuts, integrity, is_empty}
use Rattle.bay_model.specs.Entries.{Entry, insert, insert_all, gathered, closes, group_entry, closed_entry, integrity_entry, general_entry, own_entry, appended, last_number, selected}
use Rattle.bay_model.specs.Events.{Event, event_of, events, is_broken}
use Rattle.bay_model.specs.Groups.{shares, place, groups, newest, if_open, open_group, continues, is_over}
use Rattle.bay_model.specs.Lookups.{node_of}
use Rattle.bay_model.specs.Model.{Model}
use Rattle.bay_model.specs.Notes.{Kept, noted, note_by, note_at, note, all_members, is_any, union_of, no_reason}
use Rattle.bay_model.specs.Parameters.{parameters_at, parameters_after, written_to, is_changed_by, purges, is_purge, is_interrogation}
use Rattle.bay_model.specs.Points.{Deed, Point, Past, now, wrote, valued, put, activated, confirmed}
use Rattle.bay_model.specs.Retained.{purged}
use Rattle.bay_model.specs.Sets.{members, sets}
use Rattle.bay_model.specs.Values.{whole}
use Rattle.output_laws.proofs.KeepLaws.{AreKeeping, IsNaming, naming, members-same}

-- ---- numbers

-- they ascend, above one and up to another
abbrev pub Asc : ℕ → ℕ → List Kept → Type 0
Asc last total [] = Unit {0}
Asc last total (k ∷ ks) = (last < k.number) × (k.number ≤ total) × Asc k.number total ks

asc-lower : (low last total : ℕ) (ks : List Kept) → low ≤ last → Asc last total ks → Asc low total ks
asc-lower low last total [] le h = tt
asc-lower low last total (k ∷ ks) le h = (omega (arith, le, h.0), h.1, h.2)

noted-asc : (c : Model) (reasons : ℕ → Reasons) (past : Past) (i j total : ℕ) (ns : List ℕ) → j ≡ suc i → total ≡ i + length ns → Asc i total (noted c reasons past j ns)
noted-asc c reasons past i j total [] next sum = tt
noted-asc c reasons past i j total (n ∷ ns) next sum = by (is_any (reasons n)) (noted-asc c reasons past j (suc j) total ns refl (omega (arith, sum, next)))
  where
    by : (b : Bool) → Asc j total (noted c reasons past (suc j) ns)
        → Asc i total ((if b then record { number = j; reasons = reasons n; octets = data_of (whole c past (node_of c n).tree) } ∷ [] else []) ++ noted c reasons past (suc j) ns)
    by true go = (omega (arith, next), omega (arith, next, sum), go)
    by false go = asc-lower i j total (noted c reasons past (suc j) ns) (omega (arith, next)) go

-- ---- members that stand beside each other

abbrev Absent : ℕ → List Kept → Type 0
Absent n ks = Each (λ (k : Kept). (n == k.number) ≡ false) ks

above-absent : (n last total : ℕ) (ks : List Kept) → n ≤ last → Asc last total ks → Absent n ks
above-absent n last total [] le h = tt
above-absent n last total (k ∷ ks) le h = (ne_eqb n k.number (λ e. omega (arith, e, le, h.0)), above-absent n k.number total ks (omega (arith, le, h.0)) h.2)

insert-asc : (k : Kept) (ms : List Kept) (last total : ℕ) → last < k.number → k.number ≤ total → Absent k.number ms → Asc last total ms → Asc last total (insert k ms)
insert-asc k [] last total low high absent h = (low, high, tt)
insert-asc k (m ∷ ms) last total low high absent h = by (nat_lt k.number m.number) refl (λ less. insert-asc k ms m.number total less high absent.1 h.2)
  where
    by : (b : Bool) → nat_lt k.number m.number ≡ b → (m.number < k.number → Asc m.number total (insert k ms)) → Asc last total (if b then k ∷ m ∷ ms else m ∷ insert k ms)
    by true is go = (low, high, (ltb-true k.number m.number is, h.1, h.2))
    by false is go = (h.0, h.1, go (let other = eqb-false k.number m.number absent.0 in let le = ltb-false k.number m.number is in omega (arith, le, λ (e : k.number ≡ m.number). other e)))

insert-absent : (n : ℕ) (k : Kept) (ms : List Kept) → (n == k.number) ≡ false → Absent n ms → Absent n (insert k ms)
insert-absent n k [] other h = (other, tt)
insert-absent n k (m ∷ ms) other h = by (nat_lt k.number m.number) (insert-absent n k ms other h.1)
  where
    by : (b : Bool) → Absent n (insert k ms) → Absent n (if b then k ∷ m ∷ ms else m ∷ insert k ms)
    by true go = (other, h)
    by false go = (h.0, go)

all-absent : (n : ℕ) (ks ms : List Kept) → Absent n ks → Absent n ms → Absent n (insert_all ks ms)
all-absent n [] ms h all = all
all-absent n (k ∷ ks) ms h all = insert-absent n k (insert_all ks ms) h.0 (all-absent n ks ms h.1 all)

insert-all-asc : (ks ms : List Kept) (low total : ℕ) → Asc low total ks → Each (λ (k : Kept). Absent k.number ms) ks → Asc 0 total ms → Asc 0 total (insert_all ks ms)
insert-all-asc [] ms low total h apart all = all
insert-all-asc (k ∷ ks) ms low total h apart all =
    insert-asc k (insert_all ks ms) 0 total (omega (arith, h.0)) h.1 (all-absent k.number ks ms (above-absent k.number k.number total ks (omega arith) h.2) apart.0) (insert-all-asc ks ms k.number total h.2 apart.1 all)

-- ---- a group

-- the notes of these events ascend, and no two have a member in common
abbrev AreApartFrom : List Kept → List Event → Type 0
AreApartFrom ks es = Each (λ (f : Event). shares ks f.note ≡ false) es

abbrev Chain : ℕ → List Event → Type 0
Chain total [] = Unit {0}
Chain total (e ∷ es) = Asc 0 total e.note × AreApartFrom e.note es × Chain total es

any-absent : (n : Kept) (ms : List Kept) → list_any (λ (m : Kept). n.number == m.number) ms ≡ false → Absent n.number ms
any-absent n [] h = tt
any-absent n (m ∷ ms) h = (or-left (n.number == m.number) (list_any (λ (m : Kept). n.number == m.number) ms) h, any-absent n ms (or-right (n.number == m.number) (list_any (λ (m : Kept). n.number == m.number) ms) h))

unshared : (ks ms : List Kept) → shares ks ms ≡ false → Each (λ (k : Kept). Absent k.number ms) ks
unshared [] ms h = tt
unshared (k ∷ ks) ms h = (any-absent k ms (or-left (list_any (λ (m : Kept). k.number == m.number) ms) (shares ks ms) h), unshared ks ms (or-right (list_any (λ (m : Kept). k.number == m.number) ms) (shares ks ms) h))

both-absent : (ks ms others : List Kept) → Each (λ (k : Kept). Absent k.number ms) ks → Each (λ (k : Kept). Absent k.number others) ks → Each (λ (k : Kept). Absent k.number (insert_all ms others)) ks
both-absent [] ms others h i = tt
both-absent (k ∷ ks) ms others h i = (all-absent k.number ms others h.0 i.0, both-absent ks ms others h.1 i.1)

apart-gathered : (ks : List Kept) (f : Event) (fs : List Event) → AreApartFrom ks (f ∷ fs) → Each (λ (k : Kept). Absent k.number (gathered f fs)) ks
apart-gathered ks f [] h = unshared ks f.note h.0
apart-gathered ks f (g ∷ gs) h = both-absent ks f.note (gathered g gs) (unshared ks f.note h.0) (apart-gathered ks g gs h.1)

gathered-asc : (total : ℕ) (e : Event) (es : List Event) → Chain total (e ∷ es) → Asc 0 total (gathered e es)
gathered-asc total e [] h = h.0
gathered-asc total e (f ∷ fs) h = insert-all-asc e.note (gathered f fs) 0 total h.0 (apart-gathered e.note f fs h.1) (gathered-asc total f fs h.2)

any-apart : (ks : List Kept) (es : List Event) → list_any (λ (f : Event). shares ks f.note) es ≡ false → AreApartFrom ks es
any-apart ks [] h = tt
any-apart ks (e ∷ es) h = (or-left (shares ks e.note) (list_any (λ (f : Event). shares ks f.note) es) h, any-apart ks es (or-right (shares ks e.note) (list_any (λ (f : Event). shares ks f.note) es) h))

-- what continues a group is uncut, and shares no member with it
continued : (q e : Event) (es : List Event) → continues q e es ≡ true → (q.is_cut ≡ false) × AreApartFrom q.note (e ∷ es)
continued q e es h =
    let first = and-left (not q.is_cut && not (is_over e es q.moment)) (not (list_any (λ (f : Event). shares q.note f.note) (e ∷ es))) h in (
      not-true q.is_cut (and-left (not q.is_cut) (not (is_over e es q.moment)) first),
      any-apart q.note (e ∷ es) (not-true (list_any (λ (f : Event). shares q.note f.note) (e ∷ es)) (and-right (not q.is_cut && not (is_over e es q.moment)) (not (list_any (λ (f : Event). shares q.note f.note) (e ∷ es))) h)),
    )

place-chain : (total : ℕ) (q : Event) (gs : List (List Event)) → Asc 0 total q.note → (q.is_cut ≡ false → Chain total (newest gs)) → Chain total (newest (place q gs))
place-chain total q [] h was = (h, tt, tt)
place-chain total q ([] ∷ gs) h was = (h, tt, tt)
place-chain total q ((e ∷ es) ∷ gs) h was = by (continues q e es) refl
  where
    by : (b : Bool) → continues q e es ≡ b → Chain total (newest (if b then (q ∷ e ∷ es) ∷ gs else (q ∷ []) ∷ (e ∷ es) ∷ gs))
    by true is = let k = continued q e es is in (h, k.1, was k.0)
    by false is = (h, tt, tt)

-- ---- a point that leaves the DatSet

-- a write of DatSet that changes nothing leaves it
unchanged-text : (t was : List ℕ) → not (bytes_eq t was) ≡ false → t ≡ was
unchanged-text t was h = octets_same t was (not-false (bytes_eq t was) h)

written-same : (comp : Comp) (v : Value) (c : Model) (b : ℕ) (before : Past) → is_changed_by comp v (parameters_at c b before) ≡ false → (written_to comp v (parameters_at c b before)).dat_set ≡ (parameters_at c b before).dat_set
written-same comps.DatSet (kinds.Text t) c b before h = unchanged-text t (parameters_at c b before).dat_set h
written-same comps.RptID (kinds.Text t) c b before h = refl
written-same comps.OptFlds (kinds.Bits x) c b before h = refl
written-same comps.BufTm (kinds.Uint n) c b before h = refl
written-same comps.TrgOps (kinds.Bits x) c b before h = refl
written-same comps.IntgPd (kinds.Uint n) c b before h = refl
written-same _ v c b before h = refl

unpurged-same : (c : Model) (b : ℕ) (d : Deed) (before : Past) → purges c b d before ≡ false → (parameters_after b d (parameters_at c b before)).dat_set ≡ (parameters_at c b before).dat_set
unpurged-same c b (wrote a k comp v) before h = by (k == b) refl (or-right (is_purge b (wrote a k comp v)) (is_changed_by comp v (parameters_at c b before) && (k == b)) h)
  where
    unchanged : (x : Bool) → (x && true) ≡ false → x ≡ false
    unchanged true h = absurd (cc h)
    unchanged false h = refl

    by : (t : Bool) → (k == b) ≡ t → (is_changed_by comp v (parameters_at c b before) && t) ≡ false → (if t then written_to comp v (parameters_at c b before) else parameters_at c b before).dat_set ≡ (parameters_at c b before).dat_set
    by true is h = written-same comp v c b before (unchanged (is_changed_by comp v (parameters_at c b before)) h)
    by false is h = refl
unpurged-same c b _ before h = refl

-- ---- entries from a place on

abbrev pub EachFrom : ℕ → (Entry → Type 0) → List Entry → Type 0
EachFrom zero P es = Each P es
EachFrom (suc n) P [] = Unit {0}
EachFrom (suc n) P (e ∷ es) = EachFrom n P es

from-more : (n : ℕ) (P : Entry → Type 0) (es : List Entry) (e : Entry) → EachFrom n P es → P e → EachFrom n P (es ++ e ∷ [])
from-more zero P [] e h i = (i, tt)
from-more zero P (f ∷ es) e h i = (h.0, from-more zero P es e h.1 i)
from-more (suc zero) P [] e h i = tt
from-more (suc (suc n)) P [] e h i = tt
from-more (suc n) P (f ∷ es) e h i = from-more n P es e h i

from-appended : (n : ℕ) (P : Entry → Type 0) (so_far es : List Entry) → EachFrom n P so_far → Each P es → EachFrom n P (appended so_far es)
from-appended n P so_far [] h all = h
from-appended n P so_far (e ∷ es) h all = by (nat_lt (length so_far) last_number) (from-appended n P (so_far ++ e ∷ []) es (from-more n P so_far e h all.0) all.1) (from-appended n P so_far es h all.1)
  where
    by : (b : Bool) → EachFrom n P (appended (so_far ++ e ∷ []) es) → EachFrom n P (appended so_far es) → EachFrom n P (appended (if b then so_far ++ e ∷ [] else so_far) es)
    by true more same = more
    by false more same = same

from-end : (P : Entry → Type 0) (es : List Entry) → EachFrom (length es) P es
from-end P [] = tt
from-end P (e ∷ es) = from-end P es

each-get : (P : Entry → Type 0) (es : List Entry) (i : ℕ) (e : Entry) → Each P es → slice_get es i ≡ Some e → P e
each-get P [] i e h is = absurd (cc is)
each-get P (f ∷ es) zero e h is = subst P (entry-same f e is) h.0
  where
    entry-same : (e f : Entry) → Some e ≡ Some f → e ≡ f
    entry-same e f is = cc
each-get P (f ∷ es) (suc i) e h is = each-get P es i e h.1 is

pub from-get : (n : ℕ) (P : Entry → Type 0) (es : List Entry) (i : ℕ) (e : Entry) → n ≤ i → EachFrom n P es → slice_get es i ≡ Some e → P e
from-get zero P es i e le h is = each-get P es i e h is
from-get (suc n) P [] i e le h is = absurd (cc is)
from-get (suc n) P (f ∷ es) zero e le h is = absurd (omega (arith, le))
from-get (suc n) P (f ∷ es) (suc i) e le h is = from-get n P es i e (omega (arith, le)) h is

-- ---- the entries of a block

abbrev pub AscEntry : ℕ → Entry → Type 0
AscEntry total e = Asc 0 total e.members

module _ (c : Model) (b : ℕ) (below : b < length c.blocks) (first : IsNaming (parameters_at c b []).dat_set (sets c [])) where
  abbrev total : Past → ℕ
  total past = length (members c b past)

  same-total : (p : Point) (before : Past) → AreKeeping c (p ∷ before) → purges c b p.deed before ≡ false → length (members c b (p ∷ before)) ≡ length (members c b before)
  same-total p before keeps calm = ap length (members-same c b below p before keeps.1 (naming c b below first before keeps.0) (unpurged-same c b p.deed before calm))

  event-asc : (p : Point) (before : Past) → Asc 0 (length (members c b before)) (note_by c b p before)
  event-asc p before = noted-asc c (λ n. union_of c (parameters_at c b before).trg_ops p.deed before (node_of c n).attrs) (p ∷ before) 0 1 (length (members c b before)) (members c b before) refl (omega arith)

  note-asc : (p : Point) (before : Past) (d : Deed) → Asc 0 (length (members c b before)) (note_at c b p before d)
  note-asc p before (valued settings) = event-asc p before
  note-asc p before (put a x v) = event-asc p before
  note-asc p before (activated a d n) = event-asc p before
  note-asc p before (confirmed a d) = event-asc p before
  note-asc p before _ = tt

  -- what has a note purges nothing
  note-calm : (p : Point) (before : Past) (d : Deed) → is_empty (note_at c b p before d) ≡ false → purges c b d before ≡ false
  note-calm p before (valued settings) h = refl
  note-calm p before (put a x v) h = refl
  note-calm p before (activated a d n) h = refl
  note-calm p before (confirmed a d) h = refl
  note-calm p before _ h = absurd (cc h)

  breaks-not : (p : Point) (before : Past) → breaks c b p before ≡ false → purges c b p.deed before ≡ false
  breaks-not p before h = or-right (is_interrogation b p.deed) (purges c b p.deed before) (or-right (integrity c b p before) (cuts c b p.deed before) h)

  -- the newest group, where nothing broke the block since
  group-chain : (past : Past) → AreKeeping c past → is_broken c b past ≡ false → Chain (length (members c b past)) (newest (groups (events c b past)))
  group-chain [] keeps calm = tt
  group-chain (p ∷ before) keeps calm = by (is_empty (note c b p before)) refl calm (group-chain before keeps.0)
    where
      by : (t : Bool) → is_empty (note c b p before) ≡ t → (if t then breaks c b p before || is_broken c b before else false) ≡ false
          → (is_broken c b before ≡ false → Chain (length (members c b before)) (newest (groups (events c b before))))
          → Chain (length (members c b (p ∷ before))) (newest (groups (if t then events c b before else event_of c b p before ∷ events c b before)))
      by true is calm go =
          subst (λ n. Chain n (newest (groups (events c b before)))) (sym (same-total p before keeps (breaks-not p before (or-left (breaks c b p before) (is_broken c b before) calm)))) (go (or-right (breaks c b p before) (is_broken c b before) calm))
      by false is calm go =
          subst (λ n. Chain n (newest (place (event_of c b p before) (groups (events c b before))))) (sym (same-total p before keeps (note-calm p before p.deed is)))
          (place-chain (length (members c b before)) (event_of c b p before) (groups (events c b before)) (note-asc p before p.deed) (λ uncut. go (or-right (breaks c b p before) (is_broken c b before) uncut)))

  open-chain : (past : Past) → AreKeeping c past → Chain (length (members c b past)) (open_group c b past)
  open-chain past keeps = by (is_broken c b past) refl (newest (groups (events c b past))) (group-chain past keeps)
    where
      by : (t : Bool) → is_broken c b past ≡ t → (es : List Event) → (is_broken c b past ≡ false → Chain (length (members c b past)) es) → Chain (length (members c b past)) (if_open t (now past) es)
      by t is [] go = tt
      by true is (e ∷ es) go = tt
      by false is (e ∷ es) go = over (is_over e es (now past)) (go is)
        where
          over : (o : Bool) → Chain (length (members c b past)) (e ∷ es) → Chain (length (members c b past)) (if o then [] else e ∷ es)
          over true h = tt
          over false h = h

  closed-asc : (p : Point) (before : Past) (es : List Event) → Chain (length (members c b before)) es → Each (AscEntry (length (members c b before))) (closed_entry c b p before es)
  closed-asc p before [] h = tt
  closed-asc p before (e ∷ es) h = by (closes c b p before e es)
    where
      by : (t : Bool) → Each (AscEntry (length (members c b before))) (if t then group_entry p.step e es ∷ [] else [])
      by true = (gathered-asc (length (members c b before)) e es h, tt)
      by false = tt

  all-asc : (r : Reasons) (before past : Past) → Asc 0 (length (members c b before)) (all_members c b r before past)
  all-asc r before past = noted-asc c (λ n. r) past 0 1 (length (members c b before)) (members c b before) refl (omega arith)

  integrity-asc : (p : Point) (before : Past) → Each (AscEntry (length (members c b before))) (integrity_entry c b p before)
  integrity-asc p before = by (integrity c b p before)
    where
      by : (t : Bool) → Each (AscEntry (length (members c b before))) (if t then record { moment = now (p ∷ before); step = p.step; members = all_members c b (record no_reason { intg = true }) before before } ∷ [] else [])
      by true = (all-asc (record no_reason { intg = true }) before before, tt)
      by false = tt

  general-asc : (p : Point) (before : Past) → Each (AscEntry (length (members c b before))) (general_entry c b p before)
  general-asc p before = by (is_interrogation b p.deed)
    where
      by : (t : Bool) → Each (AscEntry (length (members c b before))) (if t then record { moment = now (p ∷ before); step = p.step; members = all_members c b (record no_reason { gi = true }) before (p ∷ before) } ∷ [] else [])
      by true = (all-asc (record no_reason { gi = true }) before (p ∷ before), tt)
      by false = tt

  own-asc : (p : Point) (before : Past) (ks : List Kept) → Asc 0 (length (members c b before)) ks → Each (AscEntry (length (members c b before))) (own_entry c b p before ks)
  own-asc p before [] h = tt
  own-asc p before (k ∷ ks) h = by ((parameters_at c b before).buf_tm == 0)
    where
      by : (t : Bool) → Each (AscEntry (length (members c b before))) (if t then record { moment = now (p ∷ before); step = p.step; members = k ∷ ks } ∷ [] else [])
      by true = (h, tt)
      by false = tt

  -- those that came to be since the last purge
  pub entries-asc : (past : Past) → AreKeeping c past → EachFrom (purged c b past) (AscEntry (length (members c b past))) (selected c b past)
  entries-asc [] keeps = tt
  entries-asc (p ∷ before) keeps = by (purges c b p.deed before) refl (entries-asc before keeps.0)
    where
      grown : EachFrom (purged c b before) (AscEntry (length (members c b before))) (selected c b before) → EachFrom (purged c b before) (AscEntry (length (members c b before))) (selected c b (p ∷ before))
      grown h =
          let n = purged c b before in
          let one = from-appended n (AscEntry (length (members c b before))) (selected c b before) (closed_entry c b p before (open_group c b before)) h (closed-asc p before (open_group c b before) (open-chain before keeps.0)) in
          let two = from-appended n (AscEntry (length (members c b before))) (appended (selected c b before) (closed_entry c b p before (open_group c b before))) (integrity_entry c b p before) one (integrity-asc p before) in
          let three = from-appended n (AscEntry (length (members c b before))) (appended (appended (selected c b before) (closed_entry c b p before (open_group c b before))) (integrity_entry c b p before)) (general_entry c b p before) two (general-asc p before) in
          from-appended n (AscEntry (length (members c b before))) (appended (appended (appended (selected c b before) (closed_entry c b p before (open_group c b before))) (integrity_entry c b p before)) (general_entry c b p before)) (own_entry c b p before (note c b p before)) three (own-asc p before (note c b p before) (note-asc p before p.deed))

      by : (t : Bool) → purges c b p.deed before ≡ t → EachFrom (purged c b before) (AscEntry (length (members c b before))) (selected c b before) → EachFrom (if t then length (selected c b (p ∷ before)) else purged c b before) (AscEntry (length (members c b (p ∷ before)))) (selected c b (p ∷ before))
      by true is h = from-end (AscEntry (length (members c b (p ∷ before)))) (selected c b (p ∷ before))
      by false is h = subst (λ n. EachFrom (purged c b before) (AscEntry n) (selected c b (p ∷ before))) (sym (same-total p before keeps is)) (grown h)

-- What holds of each member that is noted holds of each member of an entry.
use Rattle.std.proofs.Common.{◌≡◌, ℕ, zero, suc, ◌≤◌, Bool, true, false, ◌||◌, List, [], ◌∷◌, ◌++◌, length, subst}
use Rattle.std.specs.Prelude.{◌==◌, nat_lt, Some, slice_get, if◌then◌else◌}
use Rattle.list_laws.proofs.Among.{Each, each-both}
use Rattle.sv_base.specs.Data.{data_of}
use Rattle.sv_base.specs.declared.config.Config.{Config}
use Rattle.bay_model.specs.declared.report.Reasons.{Reasons}
use Rattle.bay_model.specs.Breaks.{integrity, is_empty}
use Rattle.bay_model.specs.Entries.{Entry, insert, insert_all, gathered, closes, group_entry, closed_entry, integrity_entry, general_entry, own_entry, appended, last_number, selected}
use Rattle.bay_model.specs.Events.{Event, event_of, events, is_broken}
use Rattle.bay_model.specs.Groups.{place, groups, newest, if_open, open_group, continues, is_over}
use Rattle.bay_model.specs.Lookups.{node_of}
use Rattle.bay_model.specs.Named.{configured_model}
use Rattle.bay_model.specs.Notes.{Kept, noted, note_by, note_at, note, all_members, is_any, union_of, no_reason}
use Rattle.bay_model.specs.Parameters.{parameters_at, is_interrogation}
use Rattle.bay_model.specs.Points.{Deed, Point, Past, now, valued, put, activated, confirmed}
use Rattle.bay_model.specs.Sets.{members}
use Rattle.bay_model.specs.Values.{whole}
use Rattle.bay_config.specs.Servable.{IsServable}
use Rattle.output_laws.specs.Names.{HasShortNames}
use Rattle.output_laws.proofs.DataLaws.{IsOneData, member-there}
use Rattle.output_laws.proofs.DepthLaws.{IsFlat}
use Rattle.output_laws.proofs.DeedLaws.{AreFine}
use Rattle.output_laws.proofs.OfferLaws.{members-sound}
use Rattle.output_laws.proofs.SetLaws.{IsSetMember}

-- ---- one Data of at most 500 octets

abbrev pub IsDataKept : Kept → Type 0
IsDataKept k = (length k.octets ≤ 500) × IsOneData 10 k.octets

module _ (c : Config) (served : IsServable c) (flat : (n : ℕ) → IsFlat (node_of (configured_model c) n).tree) (past : Past) (fine : AreFine c past) where
  noted-data : (reasons : ℕ → Reasons) (i : ℕ) (ns : List ℕ) → Each (IsSetMember c) ns → Each IsDataKept (noted (configured_model c) reasons past i ns)
  noted-data reasons i [] h = tt
  noted-data reasons i (n ∷ ns) h = by (is_any (reasons n)) (noted-data reasons (suc i) ns h.1)
    where
      by : (b : Bool) → Each IsDataKept (noted (configured_model c) reasons past (suc i) ns)
          → Each IsDataKept ((if b then record { number = i; reasons = reasons n; octets = data_of (whole (configured_model c) past (node_of (configured_model c) n).tree) } ∷ [] else []) ++ noted (configured_model c) reasons past (suc i) ns)
      by true go = (member-there c served past fine n (flat n) h.0.0, go)
      by false go = go

-- ---- entries

abbrev IsDataEntry : Entry → Type 0
IsDataEntry e = Each IsDataKept e.members

abbrev IsDataEvent : Event → Type 0
IsDataEvent e = Each IsDataKept e.note

insert-data : (k : Kept) (ms : List Kept) → IsDataKept k → Each IsDataKept ms → Each IsDataKept (insert k ms)
insert-data k [] h all = (h, tt)
insert-data k (m ∷ ms) h all = by (nat_lt k.number m.number) (insert-data k ms h all.1)
  where
    by : (b : Bool) → Each IsDataKept (insert k ms) → Each IsDataKept (if b then k ∷ m ∷ ms else m ∷ insert k ms)
    by true go = (h, all)
    by false go = (all.0, go)

insert-all-data : (ks ms : List Kept) → Each IsDataKept ks → Each IsDataKept ms → Each IsDataKept (insert_all ks ms)
insert-all-data [] ms h all = all
insert-all-data (k ∷ ks) ms h all = insert-data k (insert_all ks ms) h.0 (insert-all-data ks ms h.1 all)

gathered-data : (e : Event) (es : List Event) → IsDataEvent e → Each IsDataEvent es → Each IsDataKept (gathered e es)
gathered-data e [] h all = h
gathered-data e (f ∷ fs) h all = insert-all-data e.note (gathered f fs) h (gathered-data f fs all.0 all.1)

appended-data : (so_far es : List Entry) → Each IsDataEntry so_far → Each IsDataEntry es → Each IsDataEntry (appended so_far es)
appended-data so_far [] h all = h
appended-data so_far (e ∷ es) h all = by (nat_lt (length so_far) last_number) (appended-data (so_far ++ e ∷ []) es (each-both IsDataEntry so_far (e ∷ []) h (all.0, tt)) all.1) (appended-data so_far es h all.1)
  where
    by : (b : Bool) → Each IsDataEntry (appended (so_far ++ e ∷ []) es) → Each IsDataEntry (appended so_far es) → Each IsDataEntry (appended (if b then so_far ++ e ∷ [] else so_far) es)
    by true more same = more
    by false more same = same

place-data : (q : Event) (gs : List (List Event)) → IsDataEvent q → Each (Each IsDataEvent) gs → Each (Each IsDataEvent) (place q gs)
place-data q [] h all = ((h, tt), tt)
place-data q ([] ∷ gs) h all = ((h, tt), all.1)
place-data q ((e ∷ es) ∷ gs) h all = by (continues q e es)
  where
    by : (b : Bool) → Each (Each IsDataEvent) (if b then (q ∷ e ∷ es) ∷ gs else (q ∷ []) ∷ (e ∷ es) ∷ gs)
    by true = ((h, all.0), all.1)
    by false = ((h, tt), all)

groups-data : (qs : List Event) → Each IsDataEvent qs → Each (Each IsDataEvent) (groups qs)
groups-data [] h = tt
groups-data (q ∷ qs) h = place-data q (groups qs) h.0 (groups-data qs h.1)

newest-data : (gs : List (List Event)) → Each (Each IsDataEvent) gs → Each IsDataEvent (newest gs)
newest-data [] h = tt
newest-data (g ∷ gs) h = h.0

open-data : (broken : Bool) (moment : ℕ) (es : List Event) → Each IsDataEvent es → Each IsDataEvent (if_open broken moment es)
open-data broken moment [] h = tt
open-data broken moment (e ∷ es) h = by (broken || is_over e es moment)
  where
    by : (b : Bool) → Each IsDataEvent (if b then [] else e ∷ es)
    by true = tt
    by false = h

module _ (c : Config) (served : IsServable c) (names : HasShortNames c) (flat : (n : ℕ) → IsFlat (node_of (configured_model c) n).tree) (b : ℕ) where
  event-data : (p : Point) (before : Past) → AreFine c (p ∷ before) → Each IsDataKept (note_by (configured_model c) b p before)
  event-data p before fine = noted-data c served flat (p ∷ before) fine (λ n. union_of (configured_model c) (parameters_at (configured_model c) b before).trg_ops p.deed before (node_of (configured_model c) n).attrs) 1
      (members (configured_model c) b before) (members-sound c served names b before fine.0).1

  note-data : (p : Point) (before : Past) → AreFine c (p ∷ before) → (d : Deed) → Each IsDataKept (note_at (configured_model c) b p before d)
  note-data p before fine (valued settings) = event-data p before fine
  note-data p before fine (put a x v) = event-data p before fine
  note-data p before fine (activated a d n) = event-data p before fine
  note-data p before fine (confirmed a d) = event-data p before fine
  note-data p before fine _ = tt

  events-data : (past : Past) → AreFine c past → Each IsDataEvent (events (configured_model c) b past)
  events-data [] fine = tt
  events-data (p ∷ before) fine = by (is_empty (note (configured_model c) b p before)) (events-data before fine.0)
    where
      by : (t : Bool) → Each IsDataEvent (events (configured_model c) b before) → Each IsDataEvent (if t then events (configured_model c) b before else event_of (configured_model c) b p before ∷ events (configured_model c) b before)
      by true go = go
      by false go = (note-data p before fine p.deed, go)

  open-group-data : (past : Past) → AreFine c past → Each IsDataEvent (open_group (configured_model c) b past)
  open-group-data past fine = open-data (is_broken (configured_model c) b past) (now past) (newest (groups (events (configured_model c) b past))) (newest-data (groups (events (configured_model c) b past)) (groups-data (events (configured_model c) b past) (events-data past fine)))

  closed-data : (p : Point) (before : Past) (es : List Event) → Each IsDataEvent es → Each IsDataEntry (closed_entry (configured_model c) b p before es)
  closed-data p before [] h = tt
  closed-data p before (e ∷ es) h = by (closes (configured_model c) b p before e es)
    where
      by : (t : Bool) → Each IsDataEntry (if t then group_entry p.step e es ∷ [] else [])
      by true = (gathered-data e es h.0 h.1, tt)
      by false = tt

  all-data : (r : Reasons) (before past : Past) → AreFine c before → AreFine c past → Each IsDataKept (all_members (configured_model c) b r before past)
  all-data r before past fine full = noted-data c served flat past full (λ n. r) 1 (members (configured_model c) b before) (members-sound c served names b before fine).1

  integrity-data : (p : Point) (before : Past) → AreFine c before → Each IsDataEntry (integrity_entry (configured_model c) b p before)
  integrity-data p before fine = by (integrity (configured_model c) b p before)
    where
      by : (t : Bool) → Each IsDataEntry (if t then record { moment = now (p ∷ before); step = p.step; members = all_members (configured_model c) b (record no_reason { intg = true }) before before } ∷ [] else [])
      by true = (all-data (record no_reason { intg = true }) before before fine fine, tt)
      by false = tt

  general-data : (p : Point) (before : Past) → AreFine c (p ∷ before) → Each IsDataEntry (general_entry (configured_model c) b p before)
  general-data p before fine = by (is_interrogation b p.deed)
    where
      by : (t : Bool) → Each IsDataEntry (if t then record { moment = now (p ∷ before); step = p.step; members = all_members (configured_model c) b (record no_reason { gi = true }) before (p ∷ before) } ∷ [] else [])
      by true = (all-data (record no_reason { gi = true }) before (p ∷ before) fine.0 fine, tt)
      by false = tt

  own-data : (p : Point) (before : Past) (ks : List Kept) → Each IsDataKept ks → Each IsDataEntry (own_entry (configured_model c) b p before ks)
  own-data p before [] h = tt
  own-data p before (k ∷ ks) h = by ((parameters_at (configured_model c) b before).buf_tm == 0)
    where
      by : (t : Bool) → Each IsDataEntry (if t then record { moment = now (p ∷ before); step = p.step; members = k ∷ ks } ∷ [] else [])
      by true = (h, tt)
      by false = tt

  pub entries-data : (past : Past) → AreFine c past → Each IsDataEntry (selected (configured_model c) b past)
  entries-data [] fine = tt
  entries-data (p ∷ before) fine =
      let one = appended-data (selected (configured_model c) b before) (closed_entry (configured_model c) b p before (open_group (configured_model c) b before)) (entries-data before fine.0)
      (closed-data p before (open_group (configured_model c) b before) (open-group-data before fine.0)) in
      let two = appended-data _ (integrity_entry (configured_model c) b p before) one (integrity-data p before fine.0) in
      let three = appended-data _ (general_entry (configured_model c) b p before) two (general-data p before fine) in
      appended-data _ (own_entry (configured_model c) b p before (note (configured_model c) b p before)) three (own-data p before (note (configured_model c) b p before) (note-data p before fine p.deed))

entry-same : (e f : Entry) → Some e ≡ Some f → e ≡ f
entry-same e f is = cc

-- an entry among them
pub get-data : (es : List Entry) (i : ℕ) (e : Entry) → Each IsDataEntry es → slice_get es i ≡ Some e → Each IsDataKept e.members
get-data [] i e h is = absurd (cc is)
get-data (f ∷ es) zero e h is = subst IsDataEntry (entry-same f e is) h.0
get-data (f ∷ es) (suc i) e h is = get-data es i e h.1 is

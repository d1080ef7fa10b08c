-- The data sets that are there after a history whose steps fit have members that are there, and few of them.
use Rattle.std.proofs.Common.{not, ◌≡◌, ℕ, ◌≤◌, Bool, true, false, List, [], ◌∷◌, length}
use Rattle.std.specs.Prelude.{Option, None, Some, if◌then◌else◌}
use Rattle.std.specs.List.{find, filter}
use Rattle.list_laws.proofs.Among.{Each, each-of, of-each, of-all, passed, each-both}
use Rattle.sv_base.specs.declared.config.Config.{Config}
use Rattle.bay_model.specs.declared.request.SetName.{SetName}
use Rattle.bay_model.specs.Lookups.{node_of}
use Rattle.bay_model.specs.Model.{DataSet}
use Rattle.bay_model.specs.Named.{configured_model}
use Rattle.bay_model.specs.Points.{Deed, Change, Past, answered, unchanged, defined, deleted}
use Rattle.bay_model.specs.Reports.{reference_at}
use Rattle.bay_model.specs.Sets.{is_named, without, without_all, sets_changed, sets_after, dynamic, sets}
use Rattle.bay_config.specs.Servable.{IsServable, IsServedSet, IsMember}
use Rattle.output_laws.proofs.DeedLaws.{IsFine, AreFine, IsFineChange}

-- a member of a data set: it is there, and has a short reference
abbrev pub IsSetMember : Config → ℕ → Type 0
IsSetMember c n = IsMember c n × (length (reference_at (configured_model c) n) ≤ 129)

pub record IsSoundSet (c : Config) (s : DataSet) : Type 0 where
  pub few : length s.nodes ≤ 256
  pub members : Each (IsSetMember c) s.nodes

module _ (c : Config) (served : IsServable c) where
  allowed : (ns : List ℕ) → Each (λ n. (node_of (configured_model c) n).allowed ≡ true) ns → Each (IsSetMember c) ns
  allowed [] h = tt
  allowed (n ∷ ns) h = let m = served.allowed n h.0 in ((m.member, m.short), allowed ns h.1)

  configured-set : (s : DataSet) → IsServedSet c s → IsSoundSet c s
  configured-set s h = record { few = h.few; members = each-of (IsSetMember c) s.nodes (λ n i. (of-all (IsMember c) s.nodes n h.members i, of-all (λ n. length (reference_at (configured_model c) n) ≤ 129) s.nodes n h.short i)) }

  filtered : (p : DataSet → Bool) (ss : List DataSet) → Each (IsSoundSet c) ss → Each (IsSoundSet c) (filter p ss)
  filtered p ss all = each-of (IsSoundSet c) (filter p ss) (λ s i. of-each (IsSoundSet c) ss s all (passed p s ss i).0)

  left-out : (ns : List SetName) (ss : List DataSet) → Each (IsSoundSet c) ss → Each (IsSoundSet c) (without_all ns ss)
  left-out [] ss all = all
  left-out (n ∷ ns) ss all = left-out ns (without n ss) (filtered (λ s. not (is_named n s)) ss all)

  changed : (ch : Change) (ss : List DataSet) → IsFineChange c ch → Each (IsSoundSet c) ss → Each (IsSoundSet c) (sets_changed ch ss)
  changed unchanged ss fine all = all
  changed (defined n ns) ss fine all = each-both (IsSoundSet c) ss (record { domain = n.domain; item = n.item; nodes = ns } ∷ []) all (record { few = fine.2; members = allowed ns fine.0 }, tt)
  changed (deleted ns) ss fine all = left-out ns ss all

  after : (d : Deed) (ss : List DataSet) → IsFine c d → Each (IsSoundSet c) ss → Each (IsSoundSet c) (sets_after d ss)
  after (answered a output ch) ss fine all = changed ch ss fine all
  after _ ss fine all = all

  defined-sound : (past : Past) → AreFine c past → Each (IsSoundSet c) (dynamic past)
  defined-sound [] fine = tt
  defined-sound (p ∷ before) fine = after p.deed (dynamic before) fine.1 (defined-sound before fine.0)

  pub sets-sound : (past : Past) → AreFine c past → Each (IsSoundSet c) (sets (configured_model c) past)
  sets-sound past fine = each-both (IsSoundSet c) (configured_model c).sets (dynamic past)
      (each-of (IsSoundSet c) (configured_model c).sets (λ s i. configured-set s (of-all (IsServedSet c) (configured_model c).sets s served.sets i))) (defined-sound past fine)

-- one that is found among some is so
abbrev pub IsFoundSet : Config → Option DataSet → Type 0
IsFoundSet c None = Unit {0}
IsFoundSet c (Some s) = IsSoundSet c s

pub found-sound : (c : Config) (p : DataSet → Bool) (ss : List DataSet) → Each (IsSoundSet c) ss → IsFoundSet c (find p ss)
found-sound c p [] all = tt
found-sound c p (s ∷ ss) all = by (p s) (found-sound c p ss all.1)
  where
    by : (b : Bool) → IsFoundSet c (find p ss) → IsFoundSet c (if b then Some s else find p ss)
    by true go = all.0
    by false go = go

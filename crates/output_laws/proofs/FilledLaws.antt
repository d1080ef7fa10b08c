-- Each data set has a member: those of a text, and those that clients define.
use Rattle.std.proofs.Common.{not, ◌≡◌, ℕ, ◌≤◌, ◌⊎◌, inl, inr, Bool, true, false, List, [], ◌∷◌, ◌++◌, map, length, refl, sym, subst, arith, length-append}
use Rattle.std.specs.Prelude.{Some, is_some, unwrap_or, if◌then◌else◌}
use Rattle.std.specs.Option.{option_map}
use Rattle.std.specs.List.{find, filter}
use Rattle.list_laws.proofs.Among.{Each, each-of, of-each, passed, each-both, source}
use Rattle.sv_base.specs.declared.config.Config.{Config}
use Rattle.sv_base.specs.declared.config.SetDef.{SetDef}
use Rattle.bay_model.specs.declared.request.SetName.{SetName}
use Rattle.bay_model.specs.Model.{DataSet}
use Rattle.bay_model.specs.Named.{configured_model, nodes, member_number, set_defined}
use Rattle.bay_model.specs.Points.{Deed, Change, Past, answered, unchanged, defined, deleted}
use Rattle.bay_model.specs.Sets.{is_named, without, without_all, sets_changed, sets_after, dynamic, sets, set_referred}
use Rattle.cfg_lines.specs.Before.{place_of}
use Rattle.cfg_lines.specs.Configs.{with_member, config_of}
use Rattle.cfg_lines.specs.declared.line.Line.{Line}
use Rattle.cfg_lines.specs.declared.line.Line.TheVariants as lines
use Rattle.cfg_lines.specs.declared.line.Place.{Place}
use Rattle.cfg_lines.specs.declared.line.Place.TheVariants as places
use Rattle.cfg_grammar.specs.Texts.{AreLines, SpellsConfig}
use Rattle.output_laws.proofs.DeedLaws.{IsFine, AreFine, IsFineChange}

-- ---- those of a text

abbrev IsFilled : SetDef → Type 0
IsFilled s = 1 ≤ length s.members

-- all but the last
abbrev AreBut : List SetDef → Type 0
AreBut [] = Unit {0}
AreBut (s ∷ []) = Unit {0}
AreBut (s ∷ t ∷ ss) = IsFilled s × AreBut (t ∷ ss)

but-last : (ss : List SetDef) (s : SetDef) → Each IsFilled ss → AreBut (ss ++ s ∷ [])
but-last [] s h = tt
but-last (t ∷ []) s h = (h.0, tt)
but-last (t ∷ u ∷ ss) s h = (h.0, but-last (u ∷ ss) s h.1)

one-more : (s : SetDef) (r : List ℕ) → 1 ≤ length (s.members ++ r ∷ [])
one-more s r = omega (arith, length-append s.members (r ∷ []))

last-filled : (ss : List SetDef) (r : List ℕ) → AreBut ss → Each IsFilled (with_member ss r)
last-filled [] r h = tt
last-filled (s ∷ []) r h = (one-more s r, tt)
last-filled (s ∷ t ∷ ss) r h = (h.0, last-filled (t ∷ ss) r h.1)

still-but : (ss : List SetDef) → Each IsFilled ss → AreBut ss
still-but [] h = tt
still-but (s ∷ []) h = tt
still-but (s ∷ t ∷ ss) h = (h.0, still-but (t ∷ ss) h.1)

abbrev AreFilledAt : Place → List SetDef → Type 0
AreFilledAt places.InSet ss = AreBut ss
AreFilledAt _ ss = Each IsFilled ss

in-node : (p : Place) (ss : List SetDef) → (p ≡ places.InNode) ⊎ (p ≡ places.InMembers) → AreFilledAt p ss → Each IsFilled ss
in-node p ss (inl is) h = subst (λ q. AreFilledAt q ss) is h
in-node p ss (inr is) h = subst (λ q. AreFilledAt q ss) is h

in-domain : (p : Place) (ss : List SetDef) → (p ≡ places.InDomain) ⊎ ((p ≡ places.InNode) ⊎ (p ≡ places.InMembers)) → AreFilledAt p ss → Each IsFilled ss
in-domain p ss (inl is) h = subst (λ q. AreFilledAt q ss) is h
in-domain p ss (inr is) h = in-node p ss is h

between : (p : Place) (ss : List SetDef) → (p ≡ places.Served) ⊎ ((p ≡ places.InNode) ⊎ (p ≡ places.InMembers)) → AreFilledAt p ss → Each IsFilled ss
between p ss (inl is) h = subst (λ q. AreFilledAt q ss) is h
between p ss (inr is) h = in-node p ss is h

in-set : (p : Place) (ss : List SetDef) → (p ≡ places.InSet) ⊎ (p ≡ places.InMembers) → AreFilledAt p ss → AreBut ss
in-set p ss (inl is) h = subst (λ q. AreFilledAt q ss) is h
in-set p ss (inr is) h = still-but ss (subst (λ q. AreFilledAt q ss) is h)

at-place : (p q : Place) (ss : List SetDef) → p ≡ q → AreFilledAt p ss → AreFilledAt q ss
at-place p q ss is h = subst (λ x. AreFilledAt x ss) is h

told-filled : (told : List Line) (text : List ℕ) → AreLines text told → AreFilledAt (place_of told) (config_of told).sets
told-filled [] text h = tt
told-filled (lines.Skip ∷ before) text h = told-filled before h.0 h.3
told-filled (lines.Config ∷ before) text h = at-place (place_of before) places.Start (config_of before).sets h.4.follows (told-filled before h.0 h.3)
told-filled (lines.Server v m r ∷ before) text h = at-place (place_of before) places.Configured (config_of before).sets h.4.follows.0 (told-filled before h.0 h.3)
told-filled (lines.Ld name ∷ before) text h = between (place_of before) (config_of before).sets h.4.follows.0 (told-filled before h.0 h.3)
told-filled (lines.Ln node ∷ before) text h = in-domain (place_of before) (config_of before).sets h.4.follows.stands (told-filled before h.0 h.3)
told-filled (lines.Set set ∷ before) text h = but-last (config_of before).sets set (in-node (place_of before) (config_of before).sets h.4.follows.stands (told-filled before h.0 h.3))
told-filled (lines.Member reference ∷ before) text h = last-filled (config_of before).sets reference (in-set (place_of before) (config_of before).sets h.4.follows.stands (told-filled before h.0 h.3))
told-filled (lines.Attr attr ∷ before) text h = in-node (place_of before) (config_of before).sets h.4.follows.stands (told-filled before h.0 h.3)
told-filled (lines.Brcb block ∷ before) text h = in-node (place_of before) (config_of before).sets h.4.follows.stands (told-filled before h.0 h.3)
told-filled (lines.Ctl control ∷ before) text h = in-node (place_of before) (config_of before).sets h.4.follows.stands (told-filled before h.0 h.3)
told-filled (lines.Sgcb groups ∷ before) text h = in-node (place_of before) (config_of before).sets h.4.follows.stands.0 (told-filled before h.0 h.3)
told-filled (lines.End ∷ before) text h = between (place_of before) (config_of before).sets h.4.follows (told-filled before h.0 h.3)

-- each set of the model has a node
abbrev pub IsSome : DataSet → Type 0
IsSome s = 1 ≤ length s.nodes

map-length : (f : List ℕ → ℕ) (xs : List (List ℕ)) → length (map f xs) ≡ length xs
map-length f [] = refl
map-length f (x ∷ xs) = omega (arith, map-length f xs)

model-some : (c : Config) → Each IsFilled c.sets → Each IsSome (configured_model c).sets
model-some c filled = each-of IsSome (configured_model c).sets (λ s i.
    let d = source (set_defined (nodes c)) s c.sets i in
    let f = of-each IsFilled c.sets d.0 filled d.1 in
    subst IsSome (sym d.2) (omega (arith, f, map-length (member_number (nodes c)) d.0.members)))

pub text-some : (text : List ℕ) (c : Config) → SpellsConfig text c → Each IsSome (configured_model c).sets
text-some text c h = model-some c (subst (λ (d : Config). Each IsFilled d.sets) (sym h.makes) (subst (λ p. AreFilledAt p (config_of h.told).sets) h.ended (told-filled h.told text h.are)))

-- ---- those that are there after a history

module _ (c : Config) (first : Each IsSome (configured_model c).sets) where
  filtered : (p : DataSet → Bool) (ss : List DataSet) → Each IsSome ss → Each IsSome (filter p ss)
  filtered p ss all = each-of IsSome (filter p ss) (λ s i. of-each IsSome ss s all (passed p s ss i).0)

  left-out : (ns : List SetName) (ss : List DataSet) → Each IsSome ss → Each IsSome (without_all ns ss)
  left-out [] ss all = all
  left-out (n ∷ ns) ss all = left-out ns (without n ss) (filtered (λ s. not (is_named n s)) ss all)

  changed : (ch : Change) (ss : List DataSet) → IsFineChange c ch → Each IsSome ss → Each IsSome (sets_changed ch ss)
  changed unchanged ss fine all = all
  changed (defined n ns) ss fine all = each-both IsSome ss (record { domain = n.domain; item = n.item; nodes = ns } ∷ []) all (fine.1, tt)
  changed (deleted ns) ss fine all = left-out ns ss all

  after : (d : Deed) (ss : List DataSet) → IsFine c d → Each IsSome ss → Each IsSome (sets_after d ss)
  after (answered a output ch) ss fine all = changed ch ss fine all
  after _ ss fine all = all

  defined-some : (past : Past) → AreFine c past → Each IsSome (dynamic past)
  defined-some [] fine = tt
  defined-some (p ∷ before) fine = after p.deed (dynamic before) fine.1 (defined-some before fine.0)

  all-some : (past : Past) → AreFine c past → Each IsSome (sets (configured_model c) past)
  all-some past fine = each-both IsSome (configured_model c).sets (dynamic past) first (defined-some past fine)

-- the set that is found has a member
found-some : (p : DataSet → Bool) (ss : List DataSet) → Each IsSome ss → is_some (find p ss) ≡ true → 1 ≤ length (unwrap_or (option_map (λ (s : DataSet). s.nodes) (find p ss)) [])
found-some p [] all h = absurd (cc h)
found-some p (s ∷ ss) all h = by (p s) h (found-some p ss all.1)
  where
    by : (b : Bool) → is_some (if b then Some s else find p ss) ≡ true → (is_some (find p ss) ≡ true → 1 ≤ length (unwrap_or (option_map (λ (s : DataSet). s.nodes) (find p ss)) []))
        → 1 ≤ length (unwrap_or (option_map (λ (s : DataSet). s.nodes) (if b then Some s else find p ss)) [])
    by true h go = all.0
    by false h go = go h

pub referred-some : (c : Config) → Each IsSome (configured_model c).sets → (past : Past) → AreFine c past → (d : List ℕ) → is_some (set_referred d (sets (configured_model c) past)) ≡ true
    → 1 ≤ length (unwrap_or (option_map (λ (s : DataSet). s.nodes) (set_referred d (sets (configured_model c) past))) [])
referred-some c first past fine d h = found-some _ (sets (configured_model c) past) (all-some c first past fine) h

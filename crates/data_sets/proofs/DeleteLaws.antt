-- A reply that deletes several sets, and one that defines none.
use Rattle.std.proofs.Common.{◌≡◌, ◌<◌, ◌+◌, ◌-◌, ℕ, suc, Bool, true, false, not, List, [], ◌∷◌, ◌++◌, length, map, refl, sym, ap, ap₂, subst, ◌∙◌, arith, inl, inr, Option, None, Some, is_some, Result, Ok, Err, length-append, true≢false}
use Rattle.std.specs.Prelude.{◌&&◌, ◌||◌, nat_lt, nat_le, is_none, if◌then◌else◌}
use Rattle.std.specs.Option.{option_map}
use Rattle.std.specs.List.{find, list_all}
use Rattle.std.specs.Str.{bytes_eq}
use Rattle.std.proofs.lemmas.Bool.Decides.{leb_tells, nat_tests}
use Rattle.std.proofs.lemmas.List.{length-map}
use Rattle.bay_model.specs.declared.answer.Output.{Output}
use Rattle.bay_model.specs.declared.request.SetName.{SetName}
use Rattle.bay_model.specs.declared.request.Target.{Target}
use Rattle.bay_model.specs.declared.request.Target.TheVariants as targets
use Rattle.bay_model.specs.declared.tables.NodeRow.{NodeRow}
use Rattle.bay_model.specs.Breaks.{is_empty}
use Rattle.bay_model.specs.Definitions.{definition_error, is_set_name, is_member as may_be}
use Rattle.bay_model.specs.Deletions.{in_use_from, is_deletable, gone, matched}
use Rattle.bay_model.specs.Lookups.{reference_of}
use Rattle.bay_model.specs.Model.{Model, DataSet, Block}
use Rattle.bay_model.specs.Parameters.{parameters_at}
use Rattle.bay_model.specs.Points.{Past, answered, deleted}
use Rattle.bay_model.specs.Sets.{sets, dynamic, set_named, is_named, without, without_all}
use Rattle.data_sets.specs.declared.book.DefineFault.{DefineFault}
use Rattle.data_sets.specs.declared.book.DefineFault.TheVariants as define
use Rattle.data_sets.specs.declared.book.DeleteFault.{DeleteFault}
use Rattle.data_sets.specs.declared.book.DeleteFault.TheVariants as faults
use Rattle.data_sets.specs.Books.{Booked, Book, is_name, reference, place_of, number_named, set_at, is_member, define_fault, deletion, deletion_of, after_delete}
use Rattle.data_sets.specs.Standing.{Stands, StandsFor, data_set, dat_sets, dat_sets_from, counted, at}
use Rattle.data_sets.specs.Turns.{is_going, is_there, after_one, after_deletes, going, there, error_of, AreRows}
use Rattle.data_sets.proofs.BookLaws.{deletes, is_place, IsPlace}
use Rattle.data_sets.proofs.HistoryLaws.{found}
use Rattle.list_laws.proofs.Among.{heads, tails}
use Rattle.list_laws.proofs.Options.{none_is, some_mapped}
use Rattle.list_laws.proofs.Distinct.{octets_same}

-- ---- a definition

pub some_there : (b : Book) (all : List DataSet) (name : SetName) → map data_set b.sets ≡ all → is_some (set_named name all) ≡ is_some (number_named name b)
some_there b all name same = ap is_some (sym (found (λ s. is_name name s.name) (is_named name) (λ s. refl) b.sets ∙ ap (find (is_named name)) same))
    ∙ some_mapped (λ k. data_set (set_at b k)) (number_named name b)

pub some_named : (b : Book) (n : ℕ) (all : List DataSet) (used : List (List ℕ)) (name : SetName) → StandsFor b n all used → is_some (set_named name all) ≡ is_some (number_named name b)
some_named b n all used name h = some_there b all name h.sets

members_same : (c : Model) (rows : List NodeRow) (ts : List Target) → AreRows c rows → list_all (may_be c) ts ≡ list_all (is_member rows) ts
members_same c rows [] are = refl
members_same c rows (t ∷ ts) are = ap₂ (λ x y. x && y) (one t) (members_same c rows ts are)
  where
    one : (t : Target) → may_be c t ≡ is_member rows t
    one (targets.Node n name) = are n
    one (targets.Missing name) = refl
    one (targets.Alternate name) = refl

abbrev error_chain : Bool → Bool → Bool → Option (ℕ × ℕ)
error_chain p r t = if p then Some (2, 5) else (if r then Some (7, 2) else (if t then Some (3, 0) else None))

abbrev fault_chain : Bool → Bool → Bool → Option DefineFault
fault_chain p r t = if p then Some define.Exists else (if r then Some define.NoSuchMember else (if t then Some define.Full else None))

chains : (p r t : Bool) → error_chain p r t ≡ option_map error_of (fault_chain p r t)
chains true r t = refl
chains false true t = refl
chains false false true = refl
chains false false false = refl

-- it is asked of the book that its sets are those of the history
pub errors_told : (b : Book) (c : Model) (past : Past) (rows : List NodeRow) (name : SetName) (ts : List Target) → map data_set b.sets ≡ sets c past → b.configured ≡ length c.sets → AreRows c rows
    → definition_error c past name ts ≡ option_map error_of (define_fault b name (is_set_name c name) rows ts)
errors_told b c past rows name ts same configured are =
    let count : length (dynamic past) ≡ length b.sets - b.configured = omega (arith, ap length same, length-map b.sets data_set, length-append c.sets (dynamic past), configured) in
    let r : Bool → Bool = λ x. not (is_set_name c name) || is_empty ts || not x in
    let t : ℕ → Bool = λ x. nat_lt 256 (length ts) || nat_le 64 x in
    ap (λ p. error_chain p (r (list_all (may_be c) ts)) (t (length (dynamic past)))) (some_there b (sets c past) name same)
    ∙ (ap (λ x. error_chain (is_some (number_named name b)) (r x) (t (length (dynamic past)))) (members_same c rows ts are)
    ∙ (ap (λ x. error_chain (is_some (number_named name b)) (r (list_all (is_member rows) ts)) (t x)) count
    ∙ chains (is_some (number_named name b)) (r (list_all (is_member rows) ts)) (t (length b.sets - b.configured))))

pub errors : (b : Book) (c : Model) (past : Past) (rows : List NodeRow) (name : SetName) (ts : List Target) → Stands b c past → AreRows c rows
    → definition_error c past name ts ≡ option_map error_of (define_fault b name (is_set_name c name) rows ts)
errors b c past rows name ts h are = errors_told b c past rows name ts h.sets h.count are

-- ---- deletions in turn

pub all_deleted : (ns : List SetName) (b : Book) (n : ℕ) (all : List DataSet) (used : List (List ℕ)) → StandsFor b n all used → StandsFor (after_deletes ns b) n (without_all (going ns b) all) used
all_deleted [] b n all used h = h
all_deleted (name ∷ ns) b n all used h = by (deletion b name) refl (λ b' all' h'. all_deleted ns b' n all' used h')
  where
    by : (r : Result ℕ DeleteFault) → deletion b name ≡ r → ((b' : Book) (all' : List DataSet) → StandsFor b' n all' used → StandsFor (after_deletes ns b') n (without_all (going ns b') all') used)
        → StandsFor (after_deletes ns (after_one r b)) n (without_all ((if is_going r then name ∷ [] else []) ++ going ns (after_one r b)) all) used
    by (Ok k) is go = go (after_delete k b) (without name all) (deletes b n k all used name h is)
    by (Err f) is go = go b all h

-- a set is among the first that many
abbrev pub is_below : Option ℕ → ℕ → Bool
is_below None n = false
is_below (Some k) n = nat_lt k n

lt_suc : (k n : ℕ) → nat_lt (suc k) (suc n) ≡ nat_lt k n
lt_suc k n = grind (arith, nat_tests)

below_next : (o : Option ℕ) (n : ℕ) → is_below (option_map suc o) (suc n) ≡ is_below o n
below_next None n = refl
below_next (Some k) n = lt_suc k n

below_none : (o : Option ℕ) → false ≡ is_below o 0
below_none None = refl
below_none (Some k) = elim (leb_tells (suc k) 0) [ inl t ↦ absurd (omega (arith, t.1)) | inr t ↦ sym t.0 ]

pub in_front : (name : SetName) (bs : List Booked) (cs dyn : List DataSet) → map data_set bs ≡ cs ++ dyn → is_some (find (is_named name) cs) ≡ is_below (place_of (λ s. is_name name s.name) bs) (length cs)
in_front name bs [] dyn e = below_none (place_of (λ s. is_name name s.name) bs)
in_front name [] (d ∷ cs) dyn e = absurd (omega (arith, ap length e))
in_front name (b ∷ bs) (d ∷ cs) dyn e = ap (λ x. is_some (if is_named name x then Some x else find (is_named name) cs)) (sym (heads (data_set b) d (map data_set bs) (cs ++ dyn) e))
    ∙ by (is_name name b.name) (in_front name bs cs dyn (tails (data_set b) d (map data_set bs) (cs ++ dyn) e))
  where
    by : (t : Bool) → is_some (find (is_named name) cs) ≡ is_below (place_of (λ s. is_name name s.name) bs) (length cs)
        → is_some (if t then Some (data_set b) else find (is_named name) cs) ≡ is_below (if t then Some 0 else option_map suc (place_of (λ s. is_name name s.name) bs)) (length (d ∷ cs))
    by true later = sym (elim (leb_tells 1 (suc (length cs))) [ inl t ↦ t.0 | inr t ↦ absurd (omega (arith, t.1)) ])
    by false later = later ∙ sym (below_next (place_of (λ s. is_name name s.name) bs) (length cs))

above_zero : (x y : ℕ) → (0 < x) → nat_lt 0 (x + y) ≡ true
above_zero x y h = elim (leb_tells 1 (x + y)) [ inl t ↦ t.0 | inr t ↦ absurd (omega (arith, t.1, h)) ]

pub used_counted : (c : Model) (past : Past) (r : List ℕ) (b : ℕ) (ks : List Block) → in_use_from c past r b ks ≡ nat_lt 0 (counted r (dat_sets_from c past b ks))
used_counted c past r b [] = sym (elim (leb_tells 1 0) [ inl t ↦ absurd (omega (arith, t.1)) | inr t ↦ t.0 ])
used_counted c past r b (k ∷ ks) = by (bytes_eq (parameters_at c b past).dat_set r) (used_counted c past r (suc b) ks)
  where
    by : (t : Bool) → in_use_from c past r (suc b) ks ≡ nat_lt 0 (counted r (dat_sets_from c past (suc b) ks)) → (t || in_use_from c past r (suc b) ks) ≡ nat_lt 0 ((if t then 1 else 0) + counted r (dat_sets_from c past (suc b) ks))
    by true later = sym (above_zero 1 (counted r (dat_sets_from c past (suc b) ks)) (omega arith))
    by false later = later ∙ ap (λ n. nat_lt 0 n) (omega arith)

module _ (c : Model) (past : Past) (name : SetName) (b : Book) (all dyn : List DataSet) (h : StandsFor b (length c.sets) all (dat_sets c past)) (split : all ≡ c.sets ++ dyn) where
  and_left : (x y : Bool) → (x && y) ≡ true → x ≡ true
  and_left true y e = refl
  and_left false y e = absurd (true≢false (sym e))

  and_right : (x y : Bool) → (x && y) ≡ true → y ≡ true
  and_right true y e = e
  and_right false y e = absurd (true≢false (sym e))

  in_use : (k : ℕ) → k < length b.sets → is_name name (set_at b k).name ≡ true → in_use_from c past (reference_of name.domain name.item) 0 c.blocks ≡ nat_lt 0 (set_at b k).holds
  in_use k below is =
      let same : reference_of name.domain name.item ≡ reference (set_at b k) = ap₂ reference_of (octets_same name.domain (set_at b k).name.domain (and_left _ _ is)) (octets_same name.item (set_at b k).name.item (and_right _ _ is)) in
      used_counted c past (reference_of name.domain name.item) 0 c.blocks ∙ (ap (λ r. nat_lt 0 (counted r (dat_sets c past))) same ∙ ap (λ n. nat_lt 0 n) (sym (h.holds k below)))

  by_place : (o : Option ℕ) → number_named name b ≡ o → IsPlace (λ s. is_name name s.name) b.sets o → is_some (find (is_named name) c.sets) ≡ is_below o (length c.sets)
      → (is_some o && is_deletable c past name) ≡ is_going (deletion_of b o)
  by_place None is place front = refl
  by_place (Some k) is place front = ap₂ (λ x y. x && not y) (none_is (set_named name c.sets) ∙ ap not (front ∙ ap (λ n. nat_lt k n) (sym h.count))) (in_use k place.0 place.1) ∙ last (nat_lt k b.configured) (nat_lt 0 (set_at b k).holds)
    where
      last : (x y : Bool) → (not x && not y) ≡ is_going (if x then Err faults.NotDeletable else (if y then Err faults.InUse else Ok k))
      last true y = refl
      last false true = refl
      last false false = refl

  pub one_goes : (is_some (set_named name all) && is_deletable c past name) ≡ is_going (deletion b name)
  one_goes = ap (λ x. x && is_deletable c past name) (some_named b (length c.sets) all (dat_sets c past) name h)
      ∙ by_place (number_named name b) refl (is_place (λ s. is_name name s.name) b.sets) (in_front name b.sets c.sets dyn (h.sets ∙ split))

  there_by : (o : Option ℕ) → is_some o ≡ is_there (deletion_of b o)
  there_by None = refl
  there_by (Some k) = by (nat_lt k b.configured) (nat_lt 0 (set_at b k).holds)
    where
      by : (x y : Bool) → true ≡ is_there (if x then Err faults.NotDeletable else (if y then Err faults.InUse else Ok k))
      by true y = refl
      by false true = refl
      by false false = refl

  pub one_there : is_some (set_named name all) ≡ is_there (deletion b name)
  one_there = some_named b (length c.sets) all (dat_sets c past) name h ∙ there_by (number_named name b)

  -- what goes is no configured set
  pub one_out : is_going (deletion b name) ≡ true → is_some (find (is_named name) c.sets) ≡ false
  one_out goes = by (set_named name c.sets) refl
    where
      by : (o : Option DataSet) → set_named name c.sets ≡ o → is_some o ≡ false
      by None is = refl
      by (Some s) is = absurd (true≢false (sym (and_left _ _ (and_right _ _ (one_goes ∙ goes))) ∙ ap is_none is))

-- ---- the configured sets stay

pub kept_front : (name : SetName) (cs dyn : List DataSet) → is_some (find (is_named name) cs) ≡ false → without name (cs ++ dyn) ≡ cs ++ without name dyn
kept_front name [] dyn none = refl
kept_front name (d ∷ cs) dyn none = by (is_named name d) none (kept_front name cs dyn)
  where
    by : (t : Bool) → is_some (if t then Some d else find (is_named name) cs) ≡ false → (is_some (find (is_named name) cs) ≡ false → without name (cs ++ dyn) ≡ cs ++ without name dyn)
        → (if not t then d ∷ without name (cs ++ dyn) else without name (cs ++ dyn)) ≡ d ∷ (cs ++ without name dyn)
    by true none go = absurd (true≢false none)
    by false none go = ap (λ l. d ∷ l) (go none)

pub record Goes (c : Model) (past : Past) (ns : List SetName) (b : Book) (all dyn : List DataSet) : Type 0 where
  pub gone : gone c past ns all ≡ going ns b
  pub matched : matched c past ns all ≡ there ns b
  pub left : without_all (going ns b) all ≡ c.sets ++ without_all (going ns b) dyn

pub goes : (c : Model) (past : Past) (ns : List SetName) (b : Book) (all dyn : List DataSet) → StandsFor b (length c.sets) all (dat_sets c past) → all ≡ c.sets ++ dyn → Goes c past ns b all dyn
goes c past [] b all dyn h split = record { gone = refl; matched = refl; left = split }
goes c past (name ∷ ns) b all dyn h split = by (deletion b name) refl (one_goes c past name b all dyn h split) (one_there c past name b all dyn h split) (λ b' all' dyn' h' split'. goes c past ns b' all' dyn' h' split')
  where
    by : (r : Result ℕ DeleteFault) → deletion b name ≡ r → (is_some (set_named name all) && is_deletable c past name) ≡ is_going (deletion b name) → is_some (set_named name all) ≡ is_there (deletion b name)
        → ((b' : Book) (all' dyn' : List DataSet) → StandsFor b' (length c.sets) all' (dat_sets c past) → all' ≡ c.sets ++ dyn' → Goes c past ns b' all' dyn')
        → Goes c past (name ∷ ns) b all dyn
    by (Ok k) is test here go =
        let out : is_some (find (is_named name) c.sets) ≡ false = one_out c past name b all dyn h split (ap is_going is) in
        let next : without name all ≡ c.sets ++ without name dyn = ap (without name) split ∙ kept_front name c.sets dyn out in
        let rest : Goes c past ns (after_delete k b) (without name all) (without name dyn) = go (after_delete k b) (without name all) (without name dyn) (deletes b (length c.sets) k all (dat_sets c past) name h is) next in
        let names : going (name ∷ ns) b ≡ name ∷ going ns (after_delete k b) = ap (λ r. (if is_going r then name ∷ [] else []) ++ going ns (after_one r b)) is in
        record {
          gone = ap (λ t. (if t then name ∷ [] else []) ++ gone c past ns (if t then without name all else all)) (test ∙ ap is_going is) ∙ (ap (λ l. name ∷ l) rest.gone ∙ sym names);
          matched = ap₂ (λ t u. (if t then 1 else 0) + matched c past ns (if u then without name all else all)) (here ∙ ap is_there is) (test ∙ ap is_going is)
              ∙ (ap (λ x. 1 + x) rest.matched ∙ sym (ap (λ r. (if is_there r then 1 else 0) + there ns (after_one r b)) is));
          left = ap (λ l. without_all l all) names ∙ (rest.left ∙ ap (λ l. c.sets ++ without_all l dyn) (sym names));
        }
    by (Err f) is test here go =
        let rest : Goes c past ns b all dyn = go b all dyn h split in
        let names : going (name ∷ ns) b ≡ going ns b = ap (λ r. (if is_going r then name ∷ [] else []) ++ going ns (after_one r b)) is in
        record {
          gone = ap (λ t. (if t then name ∷ [] else []) ++ gone c past ns (if t then without name all else all)) (test ∙ ap is_going is) ∙ (rest.gone ∙ sym names);
          matched = ap₂ (λ t u. (if t then 1 else 0) + matched c past ns (if u then without name all else all)) (here ∙ ap is_there is) (test ∙ ap is_going is)
              ∙ (ap (λ x. (if is_there (Err f) then 1 else 0) + x) rest.matched ∙ sym (ap (λ r. (if is_there r then 1 else 0) + there ns (after_one r b)) is));
          left = ap (λ l. without_all l all) names ∙ (rest.left ∙ ap (λ l. c.sets ++ without_all l dyn) (sym names));
        }

unwritten : (c : Model) (a n m : ℕ) (o : Output) (names : List SetName) (before : Past) (b : ℕ) (ks : List Block) → dat_sets_from c (at n m (answered a o (deleted names)) ∷ before) b ks ≡ dat_sets_from c before b ks
unwritten c a n m o names before b [] = refl
unwritten c a n m o names before b (k ∷ ks) = ap (λ l. (parameters_at c b before).dat_set ∷ l) (unwritten c a n m o names before (suc b) ks)

pub book_deletes : (b : Book) (c : Model) (a n m : ℕ) (o : Output) (ns : List SetName) (before : Past) → Stands b c before
    → Stands (after_deletes ns b) c (at n m (answered a o (deleted (gone c before ns (sets c before)))) ∷ before)
book_deletes b c a n m o ns before h =
    let g = goes c before ns b (sets c before) (dynamic before) h refl in
    let one : Stands (after_deletes ns b) c (at n m (answered a o (deleted (going ns b))) ∷ before)
    = subst (λ l. StandsFor (after_deletes ns b) (length c.sets) l (dat_sets c (at n m (answered a o (deleted (going ns b))) ∷ before))) g.left
    (subst (λ u. StandsFor (after_deletes ns b) (length c.sets) (without_all (going ns b) (sets c before)) u) (sym (unwritten c a n m o (going ns b) before 0 c.blocks))
    (all_deleted ns b (length c.sets) (sets c before) (dat_sets c before) h)) in
    subst (λ l. Stands (after_deletes ns b) c (at n m (answered a o (deleted l)) ∷ before)) (sym g.gone) one

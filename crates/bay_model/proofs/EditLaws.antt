-- Who holds the edit of a domain, in every history.
use Rattle.std.proofs.Common.{◌≡◌, ◌≢◌, ◌≤◌, ℕ, Bool, true, false, not, [], ◌∷◌, ◌++◌, refl, sym, ap, ap₂, subst, unwrap_or, ◌∙◌, arith, ◌⊎◌, inl, inr, true≢false}
use Rattle.std.specs.Prelude.{⊤, Option, None, Some, ◌==◌, ◌&&◌, if◌then◌else◌}
use Rattle.std.specs.List.{All}
use Rattle.std.specs.Option.{option_map_or}
use Rattle.std.proofs.lemmas.Bool.Decides.{eqb_tells}
use Rattle.std.proofs.lemmas.List.Elements.{All-nil, All-cons, All-head, All-tail}
use Rattle.bay_model.specs.Model.{Model}
use Rattle.bay_model.specs.Points.{Deed, Point, Past, lost, edited, confirmed}
use Rattle.bay_model.specs.Settings.{Edit, edit, edit_after}
use Rattle.bay_model.specs.SettingWrites.{holds_edit, is_edited_by_another}
use Rattle.bay_model.specs.Answers.{History, points}
use Rattle.bay_model.specs.SettingLaw.{HoldsSince, is_of_edit}
use Rattle.bay_model.proofs.EveryPoint.{Every, OfPoints, every-point}
use Rattle.list_laws.proofs.Places.{same-number as same, same-of as number}
use Rattle.list_laws.proofs.Truths.{not-false, and-false}
use Rattle.list_laws.proofs.Options.{none_some}

-- EditSG is accepted where no other holds the edit, CnfEdit of who holds it
abbrev IsAccepted : Deed → Past → Type 0
IsAccepted (edited a d n) before = is_edited_by_another a d before ≡ false
IsAccepted (confirmed a d) before = holds_edit a d before ≡ true
IsAccepted _ before = ⊤

abbrev AtPoint : Point → Past → Type 0
AtPoint p before = IsAccepted p.deed before

facts : (c : Model) → OfPoints c AtPoint
facts c = record {
  of_single = λ n m a past. record {
    of_nothing = tt;
    of_wrote = λ b comp v h. tt;
    of_put = λ x v h. tt;
    of_copied = λ x v. tt;
    of_activated = λ d n. tt;
    of_edited = λ d n free. free;
    of_confirmed = λ d holds. holds;
    of_called = λ k j v. tt;
    of_selected = λ k. tt;
  };
  of_opened = λ n m past a o w size owner. tt;
  of_lost = λ n m past a. tt;
  of_valued = λ n m past s. tt;
  of_finished = λ n m past k good. tt;
  of_blocked = λ n m past k flag. tt;
  of_answered = λ n m past a o ch. tt;
  of_took = λ n m past a. tt;
  of_terminated = λ n m past a k. tt;
  of_reported = λ n m past a b i next mine. tt;
  of_nothing = λ n m past. tt;
}

module _ (a d n : ℕ) where
  abbrev mine : Option Edit
  mine = Some (record { holder = a; group = n })

  -- a deed that is none of a's edit leaves it
  stays : (p : Deed) (before : Past) → IsAccepted p before → is_of_edit a d p ≡ false → edit d before ≡ mine → edit_after d p (edit d before) ≡ mine
  stays (edited b e m) before free other is = by (eqb_tells e d)
    where
      by : ((e == d) ≡ true) × (e ≡ d) ⊎ ((e == d) ≡ false) × (e ≢ d) → (if e == d then (if m == 0 then None else Some (record { holder = b; group = m })) else edit d before) ≡ mine
      by (inr t) = rw t.0 is
      by (inl t) =
          let free-here : not (a == b) ≡ false = ap (λ (o : Option Edit). option_map_or (λ (x : Edit). not (x.holder == b)) o false) (sym is) ∙ (ap (λ k. is_edited_by_another b k before) (sym t.1) ∙ free) in
          let own : b ≡ a = sym (number a b (not-false (a == b) free-here)) in
          absurd (true≢false (sym (ap (λ k. (k == a) && true) own ∙ ap (λ x. x && true) (same a)) ∙ (ap (λ x. (b == a) && x) (sym t.0) ∙ other)))
  stays (confirmed b e) before holds other is = by (eqb_tells e d)
    where
      by : ((e == d) ≡ true) × (e ≡ d) ⊎ ((e == d) ≡ false) × (e ≢ d) → (if e == d then None else edit d before) ≡ mine
      by (inr t) = rw t.0 is
      by (inl t) =
          let holds-here : (a == b) ≡ true = ap (λ (o : Option Edit). option_map_or (λ (x : Edit). x.holder == b) o false) (sym is) ∙ (ap (λ k. holds_edit b k before) (sym t.1) ∙ holds) in
          let own : b ≡ a = sym (number a b holds-here) in
          absurd (true≢false (sym (ap (λ k. (k == a) && true) own ∙ ap (λ x. x && true) (same a)) ∙ (ap (λ x. (b == a) && x) (sym t.0) ∙ other)))
  stays (lost b) before u other is = by (eqb_tells a b)
    where
      by : ((a == b) ≡ true) × (a ≡ b) ⊎ ((a == b) ≡ false) × (a ≢ b) → (if option_map_or (λ (x : Edit). x.holder == b) (edit d before) false then None else edit d before) ≡ mine
      by (inl t) = absurd (true≢false (sym (ap (λ k. k == a) (sym t.1) ∙ same a) ∙ other))
      by (inr t) = ap (λ (o : Option Edit). if option_map_or (λ (x : Edit). x.holder == b) o false then None else o) is ∙ rw t.0 refl
  stays _ before u other is = is

  begins : (before : Past) → 1 ≤ n → edit_after d (edited a d n) (edit d before) ≡ mine
  begins before above = by (eqb_tells n 0)
    where
      by : ((n == 0) ≡ true) × (n ≡ 0) ⊎ ((n == 0) ≡ false) × (n ≢ 0) → (if d == d then (if n == 0 then None else mine) else edit d before) ≡ mine
      by (inl t) = absurd (omega (arith, above, t.1))
      by (inr t) = rw (same d, t.0) refl

  holds : (later : Past) (begun : Point) (before : Past) → Every AtPoint (later ++ begun ∷ before) → begun.deed ≡ edited a d n → 1 ≤ n
      → All (λ (p : Point). is_of_edit a d p.deed ≡ false) later → edit d (later ++ begun ∷ before) ≡ mine
  holds [] begun before every is above since = ap (λ q. edit_after d q (edit d before)) is ∙ begins before above
  holds (p ∷ later) begun before every is above since =
      stays p.deed (later ++ begun ∷ before) every.1 (All-head (λ (q : Point). is_of_edit a d q.deed ≡ false) p later since)
      (holds later begun before every.0 is above (All-tail (λ (q : Point). is_of_edit a d q.deed ≡ false) p later since))

pub holders_edit : (c : Model) (h : History) (a d n : ℕ) → HoldsSince a d n (points c h) → edit d (points c h) ≡ Some (record { holder = a; group = n })
holders_edit c h a d n s =
    ap (λ past. edit d past) s.split ∙ holds a d n s.later s.begun s.before (subst (Every AtPoint) s.split (every-point c AtPoint (facts c) h)) s.deed s.above s.since

-- who holds the edit after a deed held it before, or begins it there
abbrev Came : ℕ → Edit → Deed → Option Edit → Type 0
Came d e p was = ((p ≡ edited e.holder d e.group) × (1 ≤ e.group)) ⊎ ((was ≡ Some e) × (is_of_edit e.holder d p ≡ false))

some-same : (x e : Edit) → Some x ≡ Some e → x ≡ e
some-same x e is = ap (λ (o : Option Edit). unwrap_or o x) is

swap-false : (a b : ℕ) → (a == b) ≡ false → (b == a) ≡ false
swap-false a b h = elim (eqb_tells b a) [ inl t ↦ absurd (true≢false (sym (ap (λ k. a == k) t.1 ∙ same a) ∙ h)) | inr t ↦ t.0 ]

came : (d : ℕ) (e : Edit) (p : Deed) (was : Option Edit) → edit_after d p was ≡ Some e → Came d e p was
came d e (edited a x n) was is = by (eqb_tells x d) (eqb_tells n 0)
  where
    after : Bool → Bool → Option Edit
    after b none = if b then (if none then None else Some (record { holder = a; group = n })) else was

    by : ((x == d) ≡ true) × (x ≡ d) ⊎ ((x == d) ≡ false) × (x ≢ d) → ((n == 0) ≡ true) × (n ≡ 0) ⊎ ((n == 0) ≡ false) × (n ≢ 0) → Came d e (edited a x n) was
    by (inr t) u = inr (ap (λ b. after b (n == 0)) (sym t.0) ∙ is, ap (λ b. (a == e.holder) && b) t.0 ∙ and-false (a == e.holder))
    by (inl t) (inl u) = absurd (none_some e (ap₂ after (sym t.0) (sym u.0) ∙ is))
    by (inl t) (inr u) =
        let own = some-same (record { holder = a; group = n }) e (ap₂ after (sym t.0) (sym u.0) ∙ is) in
        inl (ap (λ (q : Edit). edited q.holder x q.group) own ∙ ap (λ k. edited e.holder k e.group) t.1, omega (arith, u.1, ap (λ (q : Edit). q.group) own))
came d e (confirmed a x) was is = by (eqb_tells x d)
  where
    by : ((x == d) ≡ true) × (x ≡ d) ⊎ ((x == d) ≡ false) × (x ≢ d) → Came d e (confirmed a x) was
    by (inl t) = absurd (none_some e (ap (λ b. if b then None else was) (sym t.0) ∙ is))
    by (inr t) = inr (ap (λ b. if b then None else was) (sym t.0) ∙ is, ap (λ b. (a == e.holder) && b) t.0 ∙ and-false (a == e.holder))
came d e (lost a) was is = by (option_map_or (λ (q : Edit). q.holder == a) was false) refl
  where
    by : (b : Bool) → option_map_or (λ (q : Edit). q.holder == a) was false ≡ b → Came d e (lost a) was
    by true t = absurd (none_some e (ap (λ b. if b then None else was) (sym t) ∙ is))
    by false t =
        let kept = ap (λ b. if b then None else was) (sym t) ∙ is in
        inr (kept, swap-false e.holder a (ap (λ (o : Option Edit). option_map_or (λ (q : Edit). q.holder == a) o false) (sym kept) ∙ t))
came d e _ was is = inr (is, refl)

since : (d : ℕ) (e : Edit) (past : Past) → edit d past ≡ Some e → HoldsSince e.holder d e.group past
since d e [] is = absurd (none_some e is)
since d e (p ∷ before) is = by (came d e p.deed (edit d before) is) (since d e before)
  where
    by : Came d e p.deed (edit d before) → (edit d before ≡ Some e → HoldsSince e.holder d e.group before) → HoldsSince e.holder d e.group (p ∷ before)
    by (inl t) go = record { later = []; begun = p; before = before; split = refl; deed = t.0; above = t.1; since = All-nil (λ (q : Point). is_of_edit e.holder d q.deed ≡ false) }
    by (inr t) go = let s = go t.0 in
        record { later = p ∷ s.later; begun = s.begun; before = s.before; split = ap (λ (l : Past). p ∷ l) s.split; deed = s.deed; above = s.above; since = All-cons (λ (q : Point). is_of_edit e.holder d q.deed ≡ false) p s.later t.1 s.since }

pub edits_are_held : (c : Model) (h : History) (d : ℕ) (e : Edit) → edit d (points c h) ≡ Some e → HoldsSince e.holder d e.group (points c h)
edits_are_held c h d e is = since d e (points c h) is

pub holder_is_one : (c : Model) (h : History) (a b d n m : ℕ) → HoldsSince a d n (points c h) → HoldsSince b d m (points c h) → a ≡ b
holder_is_one c h a b d n m one other = by (sym (holders_edit c h a d n one) ∙ holders_edit c h b d m other)
  where
    by : ◌≡◌ {A = Option Edit} (Some (record { holder = a; group = n })) (Some (record { holder = b; group = m })) → a ≡ b
    by e = ap (λ (o : Option Edit). option_map_or (λ (x : Edit). x.holder) o a) e

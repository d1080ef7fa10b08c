-- Passes that were dealt, played and joined again.
use Rattle.std.proofs.Common.{◌≡◌, ◌≢◌, ℕ, zero, suc, ◌+◌, ◌<◌, ◌≤◌, eq-eqb, ne_eqb, cond, List, [], ◌∷◌, ◌++◌, length, take, map, get_or, inl, ⊎_elim, sym, refl, ap, subst, ◌∙◌, arith, append_assoc}
use Rattle.std.specs.List.{All}
use mathlib.Core.Logic.{dite}
use native.Mathlib.Decide.{ℕ_discrete, dec_lt}
use Rattle.sv_base.specs.declared.config.Config.{Config}
use Rattle.bay_model.specs.Answers.{History}
use Rattle.bay_histories.specs.Rules.{Rules}
use Rattle.bay_histories.specs.Histories.{IsEarlier, by, IsLegal}
use Rattle.history_lock.specs.Passes.{Site, Known, HasNumber, Joined}
use Rattle.history_lock.proofs.Steps.{by-append, nothing_more}
use Rattle.history_lock.proofs.Joining.{has_ours, has_theirs}
use Rattle.actor_scripts.specs.declared.script.Script.{Script}
use Rattle.actor_scripts.specs.declared.part.Part.{Part}
use Rattle.script_threads.specs.declared.job.Played.{Played}
use Rattle.script_threads.specs.declared.job.Job.{Job}
use Rattle.actor_scripts.specs.Scripts.{turns_onto, turns_by, replies_of}
use Rattle.actor_scripts.specs.Stops.{StopsAt}
use Rattle.script_threads.specs.Playing.{IsOf, Went}
use Rattle.script_threads.specs.Dealing.{IsRest, IsFresh, Dealt, AllWent}
use Rattle.actor_scripts.specs.Raced.{beginnings, IsPart, AreParts, IsRaced}
use Rattle.script_threads.specs.Races.{Gathers, AllGathered}
use Rattle.script_threads.proofs.Plays.{same_numbers}
use Rattle.actor_scripts.proofs.Lists.{replies_skip}

-- ---- dealing

-- the next pass is below those that were dealt
pub dealt_more : (h : Site) (low high : ℕ) (xs : List (Known × Script)) (x : Known × Script) → Dealt h low high xs → IsFresh h x → x.0.first + x.0.count ≡ low
    → Dealt h x.0.first high (xs ++ x ∷ [])
dealt_more h low high [] x is fresh next = (fresh, next ∙ is, refl)
dealt_more h low high (y ∷ ys) x dealt fresh next = (dealt.0, dealt.1, dealt_more h low y.0.first ys x dealt.2 fresh next)

dealt_low : (h : Site) (low high : ℕ) (xs : List (Known × Script)) → Dealt h low high xs → low ≤ high
dealt_low h low high [] is = omega (arith, is)
dealt_low h low high (x ∷ xs) dealt = omega (arith, dealt.0.1, dealt.1, dealt_low h low x.0.first xs dealt.2)

-- ---- joining

pub gathers_self : (p : Known) → Gathers p p
gathers_self p = record { earlier = ([], refl); numbers = λ k has. (has, refl) }

pub gathers_ours : (p q r : Known) → Joined p q r → Gathers p r
gathers_ours p q r j = record { earlier = j.this; numbers = λ k has. (has_ours k p q r j has, j.ours k has) }

pub gathers_theirs : (p q r : Known) → Joined p q r → Gathers q r
gathers_theirs p q r j = record { earlier = j.that; numbers = λ k has. (has_theirs k p q r j has, j.theirs k has) }

earlier_more : (xs ys zs : History) → IsEarlier xs ys → IsEarlier ys zs → IsEarlier xs zs
earlier_more xs ys zs a b = (b.0 ++ a.0, append_assoc b.0 a.0 xs ∙ (ap (λ (l : History). b.0 ++ l) a.1 ∙ b.1))

pub gathers_more : (a b c : Known) → Gathers a b → Gathers b c → Gathers a c
gathers_more a b c g h = record {
  earlier = earlier_more a.seen b.seen c.seen g.earlier h.earlier;
  numbers = λ k has. let x = g.numbers k has in let y = h.numbers k x.0 in (y.0, y.1 ∙ x.1);
}

pub legal_joined : (rules : Rules) (config : Config) (p q r : Known) → Joined p q r → IsLegal rules config p.seen → IsLegal rules config q.seen → IsLegal rules config r.seen
legal_joined rules config p q r j a b = ⊎_elim (λ (e : r.seen ≡ p.seen). subst (IsLegal rules config) (sym e) a) (λ (e : r.seen ≡ q.seen). subst (IsLegal rules config) (sym e) b) j.longer

-- ---- what came of all scripts

abbrev pub scripts_of : List (Known × Script) → List Script
scripts_of xs = map (λ (x : Known × Script). x.1) xs

abbrev pub parts_of : {M : Type 0} → List (Played M) → List Part
parts_of {M} ds = map (λ (d : Played M). d.part) ds

not_first : (s : Script) (p : Part) (ss : List Script) (ps : List Part) (k : ℕ) → s.actor ≢ k → beginnings (s ∷ ss) (p ∷ ps) k ≡ beginnings ss ps k
not_first s p ss ps k ne = ap (λ b. cond b (turns_by k (take (length p.replies.items) s.steps.items)) (beginnings ss ps k)) (ne_eqb s.actor k ne)

the_first : (s : Script) (p : Part) (ss : List Script) (ps : List Part) (k : ℕ) → s.actor ≡ k → beginnings (s ∷ ss) (p ∷ ps) k ≡ turns_by k (take (length p.replies.items) s.steps.items)
the_first s p ss ps k is = ap (λ b. cond b (turns_by k (take (length p.replies.items) s.steps.items)) (beginnings ss ps k)) (eq-eqb s.actor k is)

-- no script is of a number that was not dealt
none_above : (h : Site) (low high : ℕ) (xs : List (Known × Script)) (ps : List Part) (k : ℕ) → Dealt h low high xs → high ≤ k → beginnings (scripts_of xs) ps k ≡ []
none_above h low high [] ps k dealt le = refl
none_above h low high (x ∷ xs) [] k dealt le = refl
none_above h low high (x ∷ xs) (p ∷ ps) k dealt le =
    not_first x.1 p (scripts_of xs) ps k (λ e. absurd (omega (arith, e, dealt.0.4, dealt.0.1, dealt.1, le)))
    ∙ none_above h low x.0.first xs ps k dealt.2 (omega (arith, dealt.1, le))

none_below : (h : Site) (low high : ℕ) (xs : List (Known × Script)) (ps : List Part) (k : ℕ) → Dealt h low high xs → k < low → beginnings (scripts_of xs) ps k ≡ []
none_below h low high [] ps k dealt lt = refl
none_below h low high (x ∷ xs) [] k dealt lt = refl
none_below h low high (x ∷ xs) (p ∷ ps) k dealt lt =
    not_first x.1 p (scripts_of xs) ps k (λ e. absurd (omega (arith, e, dealt.0.4, dealt_low h low x.0.first xs dealt.2, lt)))
    ∙ none_below h low x.0.first xs ps k dealt.2 lt

-- the numbers of one actor's pass
module _ {M : Type 0} (rules : Rules) (h : Site) (x : Known × Script) (d : Played M) (q : Known) (fresh : IsFresh h x) (went : Went rules x.0 x.1 d) (gathered : Gathers d.pass q) where
  pub number_held : (k : ℕ) → x.0.first ≤ k → k < x.0.first + x.0.count → HasNumber q k × (by k q.seen ≡ by k d.pass.seen)
  number_held k low near = gathered.numbers k (same_numbers x.0 d.pass went.plays.same k (inl (low, near)))

  pub own_steps : by x.0.first d.pass.seen ≡ turns_by x.0.first (take (length d.part.replies.items) x.1.steps.items)
  own_steps = went.plays.own ∙ ap (λ (l : History). turns_onto x.0.first (take (length d.part.replies.items) x.1.steps.items) (by x.0.first l)) fresh.3

  pub no_steps : (k : ℕ) → x.0.first < k → k < x.0.first + x.0.count → by k d.pass.seen ≡ []
  no_steps k above near = went.plays.others k (inl (omega (arith, above), near)) (λ e. absurd (omega (arith, e, above))) ∙ ap (by k) fresh.3

abbrev Held : Known → List Script → List Part → ℕ → Type 0
Held q ss ps k = HasNumber q k × (by k q.seen ≡ beginnings ss ps k)

-- each number that was dealt is held by q, with the beginning of its script
pub dealt_held : {M : Type 0} (rules : Rules) (h : Site) (low high : ℕ) (xs : List (Known × Script)) (ds : List (Played M)) (q : Known) → Dealt h low high xs → AllWent rules xs ds → AllGathered q ds
    → (k : ℕ) → low ≤ k → k < high → Held q (scripts_of xs) (parts_of ds) k
dealt_held rules h low high [] ds q dealt went gathered k le lt = absurd (omega (arith, dealt, le, lt))
dealt_held rules h low high (x ∷ xs) [] q dealt went gathered k le lt = absurd went
dealt_held rules h low high (x ∷ xs) (d ∷ ds) q dealt went gathered k le lt =
    dite (ℕ_discrete k x.0.first) mine
    (λ ne. dite (dec_lt k x.0.first) (λ less. below (dealt_held rules h low x.0.first xs ds q dealt.2 went.1 gathered.1 k le less) less) (λ ge. above (omega (arith, ne, ge))))
  where
    near : x.0.first ≤ k → k < x.0.first + x.0.count
    near from = omega (arith, lt, dealt.1)

    mine : k ≡ x.0.first → Held q (scripts_of (x ∷ xs)) (parts_of (d ∷ ds)) k
    mine e =
        let held = number_held rules h x d q dealt.0 went.0 gathered.0 k (omega (arith, e)) (near (omega (arith, e))) in (
          held.0,
          held.1 ∙ (ap (λ (n : ℕ). by n d.pass.seen) e ∙ (own_steps rules h x d q dealt.0 went.0 gathered.0
              ∙ (ap (λ (n : ℕ). turns_by n (take (length d.part.replies.items) x.1.steps.items)) (sym e)
              ∙ sym (the_first x.1 d.part (scripts_of xs) (parts_of ds) k (dealt.0.4 ∙ sym e))))),
        )

    below : Held q (scripts_of xs) (parts_of ds) k → k < x.0.first → Held q (scripts_of (x ∷ xs)) (parts_of (d ∷ ds)) k
    below rest less =
        (rest.0, rest.1 ∙ sym (not_first x.1 d.part (scripts_of xs) (parts_of ds) k (λ e. absurd (omega (arith, e, dealt.0.4, less)))))

    above : x.0.first < k → Held q (scripts_of (x ∷ xs)) (parts_of (d ∷ ds)) k
    above more =
        let held = number_held rules h x d q dealt.0 went.0 gathered.0 k (omega (arith, more)) (near (omega (arith, more))) in (
          held.0,
          held.1 ∙ (no_steps rules h x d q dealt.0 went.0 gathered.0 k more (near (omega (arith, more)))
              ∙ sym (not_first x.1 d.part (scripts_of xs) (parts_of ds) k (λ e. absurd (omega (arith, e, dealt.0.4, more)))
              ∙ none_above h low x.0.first xs (parts_of ds) k dealt.2 (omega (arith, more)))),
        )

-- so is every number below, of which there are no steps
pub all_held : {M : Type 0} (rules : Rules) (h : Site) (p : Known) (high : ℕ) (xs : List (Known × Script)) (ds : List (Played M)) (q : Known) → p.first ≡ 0 → p.seen ≡ [] → Dealt h p.count high xs → AllWent rules xs ds
    → Gathers p q → AllGathered q ds → (k : ℕ) → k < high → Held q (scripts_of xs) (parts_of ds) k
all_held rules h p high xs ds q first none dealt went own gathered k lt =
    dite (dec_lt k p.count)
    (λ less. let held = own.numbers k (inl (omega (arith, first), omega (arith, first, less))) in
    (held.0, held.1 ∙ (ap (by k) none ∙ sym (none_below h p.count high xs (parts_of ds) k dealt less))))
    (λ ge. dealt_held rules h p.count high xs ds q dealt went gathered k (omega (arith, ge)) lt)

-- what was answered, in the whole history
no_more : (rules : Rules) (a b : History) (k : ℕ) → IsEarlier a b → by k b ≡ by k a → (c : Config) → replies_of rules c k b ≡ replies_of rules c k a
no_more rules a b k earlier same c =
    let none : by k earlier.0 ≡ [] = nothing_more (by k a) (by k earlier.0) (sym (by-append k earlier.0 a) ∙ (ap (by k) earlier.1 ∙ same)) in
    ap (replies_of rules c k) (sym earlier.1) ∙ replies_skip rules c k earlier.0 a none

a_part : {M : Type 0} (rules : Rules) (h : Site) (x : Known × Script) (d : Played M) (q : Known) → IsFresh h x → Went rules x.0 x.1 d → Gathers d.pass q → IsPart rules h.config q.seen x.1 d.part
a_part rules h x d q fresh went gathered = record {
  actor = went.actor;
  few = went.plays.few;
  told = told;
  before = d.pass.seen;
  earlier = gathered.earlier;
  own = subst (λ (k : ℕ). by k d.pass.seen ≡ turns_by k (take (length d.part.replies.items) x.1.steps.items)) (sym fresh.4) (own_steps rules h x d q fresh went gathered);
  stops = subst (λ (c : Config). StopsAt rules c x.1.actor x.1.steps.items (length d.part.replies.items) d.part.fault d.pass.seen) fresh.0.1
      (subst (λ (k : ℕ). StopsAt rules x.0.config k x.1.steps.items (length d.part.replies.items) d.part.fault d.pass.seen) (sym fresh.4) went.stops);
}
  where
    held : by x.0.first q.seen ≡ by x.0.first d.pass.seen
    held = (number_held rules h x d q fresh went gathered x.0.first (omega arith) (omega (arith, fresh.1))).1

    first : x.0.first ≡ d.part.actor
    first = sym fresh.4 ∙ sym went.actor

    told : d.part.replies.items ≡ replies_of rules h.config d.part.actor q.seen
    told =
        sym (went.plays.told ∙ ap (λ (l : History). replies_of rules x.0.config x.0.first l ++ d.part.replies.items) fresh.3)
        ∙ (sym (no_more rules d.pass.seen q.seen x.0.first gathered.earlier held x.0.config)
        ∙ (λ i. replies_of rules (fresh.0.1 i) (first i) q.seen))

pub all_parts : {M : Type 0} (rules : Rules) (h : Site) (low high : ℕ) (xs : List (Known × Script)) (ds : List (Played M)) (q : Known) → Dealt h low high xs → AllWent rules xs ds → AllGathered q ds
    → AreParts rules h.config q.seen (scripts_of xs) (parts_of ds)
all_parts rules h low high [] [] q dealt went gathered = tt
all_parts rules h low high [] (d ∷ ds) q dealt went gathered = went
all_parts rules h low high (x ∷ xs) [] q dealt went gathered = went
all_parts rules h low high (x ∷ xs) (d ∷ ds) q dealt went gathered = (a_part rules h x d q dealt.0 went.0 gathered.0, all_parts rules h low x.0.first xs ds q dealt.2 went.1 gathered.1)

pub all_more : {M : Type 0} (p q : Known) (ds : List (Played M)) (d : Played M) → AllGathered p ds → Gathers p q → Gathers d.pass q → AllGathered q (ds ++ d ∷ [])
all_more p q [] d all ours theirs = (theirs, tt)
all_more p q (x ∷ ds) d all ours theirs = (gathers_more x.pass p q all.0 ours, all_more p q ds d all.1 ours theirs)

-- ---- the race

pub went_all : {M : Type 0} (rules : Rules) (xs : List (Known × Script)) (ds : List (Played M)) → length ds ≡ length xs
    → ((i : ℕ) (x : Known × Script) (d : Played M) → i < length xs → Went rules (get_or xs i x).0 (get_or xs i x).1 (get_or ds i d)) → AllWent rules xs ds
went_all rules [] [] same each = tt
went_all rules [] (d ∷ ds) same each = absurd (omega (arith, same))
went_all rules (x ∷ xs) [] same each = absurd (omega (arith, same))
went_all rules (x ∷ xs) (d ∷ ds) same each = (each 0 x d (omega arith), went_all rules xs ds (omega (arith, same)) (λ i y e near. each (suc i) y e (omega (arith, near))))

fine : {M : Type 0} (rules : Rules) (h : Site) (x : Known × Script) (d : Played M) → IsFresh h x → Went rules x.0 x.1 d → IsOf h d.pass × IsLegal rules h.config d.pass.seen
fine rules h x d fresh went =
    let same = went.plays.same in
    ((same.0 ∙ fresh.0.0, same.1 ∙ fresh.0.1), subst (λ (c : Config). IsLegal rules c d.pass.seen) fresh.0.1 (went.plays.legal (subst (IsLegal rules x.0.config) (sym fresh.3) tt)))

pub all_fine : {M : Type 0} (rules : Rules) (h : Site) (low high : ℕ) (xs : List (Known × Script)) (ds : List (Played M)) → Dealt h low high xs → AllWent rules xs ds
    → All (λ (d : Played M). IsOf h d.pass × IsLegal rules h.config d.pass.seen) ds
all_fine rules h low high xs [] dealt went k e near = absurd (omega (arith, near))
all_fine rules h low high [] (d ∷ ds) dealt went k e near = absurd went
all_fine rules h low high (x ∷ xs) (d ∷ ds) dealt went zero e near = fine rules h x d dealt.0 went.0
all_fine rules h low high (x ∷ xs) (d ∷ ds) dealt went (suc k) e near = all_fine rules h low x.0.first xs ds dealt.2 went.1 k e (omega (arith, near))

pub scripts_paired : {M X : Type 0} (jobs : List (Job M X)) → scripts_of (map (λ (j : Job M X). (j.pass, j.script)) jobs) ≡ map (λ (j : Job M X). j.script) jobs
scripts_paired [] = refl
scripts_paired (j ∷ jobs) = ap (λ (l : List Script). j.script ∷ l) (scripts_paired jobs)

pub raced : {M : Type 0} (rules : Rules) (h : Site) (p q : Known) (xs : List (Known × Script)) (ds : List (Played M)) → IsRest h p.count p → Dealt h p.count 33 xs → AllWent rules xs ds → Gathers p q → AllGathered q ds
    → IsLegal rules h.config q.seen → ((k : ℕ) → 33 ≤ k → by k q.seen ≡ []) → IsRaced rules h.config (scripts_of xs) (parts_of ds) q.seen
raced rules h p q xs ds rest dealt went own gathered legal beyond = record {
  legal = legal;
  shuffle = (λ k near. (all_held rules h p 33 xs ds q rest.1 rest.4 dealt went own gathered k near).1, λ k far. beyond k far);
  parts_ = all_parts rules h p.count 33 xs ds q dealt went gathered;
}

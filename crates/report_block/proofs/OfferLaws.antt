-- The next entries of blocks: the one that is offered first is that of the model.
use Rattle.std.proofs.Common.{◌≡◌, ◌≤◌, ◌<◌, ℕ, suc, ◌+◌, ◌-◌, max, Bool, true, false, List, [], ◌∷◌, length, map, drop, refl, sym, subst, ap, ◌∙◌, arith, inl, inr, ◌⊎◌}
use Rattle.std.specs.Prelude.{if◌then◌else◌, ◌&&◌, ◌==◌, nat_le, nat_lt, slice_get, Option, None, Some}
use Rattle.std.specs.Option.{option_map, option_map_or, option_and_then}
use Rattle.std.specs.List.{All}
use Rattle.std.proofs.lemmas.Bool.Decides.{leb_tells}
use Rattle.std.proofs.lemmas.Option.{slice_get-map}
use Rattle.list_laws.proofs.Places.{slice_get-drop, all-at}
use Rattle.sv_base.specs.declared.numbers.AssocNo.{AssocNo}
use Rattle.brcb_state.specs.declared.block.Holder.{Holder}
use Rattle.bay_model.specs.Model.{Model, Block}
use Rattle.bay_model.specs.Points.{Past}
use Rattle.bay_model.specs.Entries.{Entry, selected}
use Rattle.bay_model.specs.Blocks.{enabler, is_enabled_by, is_overflown, sq_num, cursor}
use Rattle.bay_model.specs.Retained.{front}
use Rattle.bay_model.specs.Reports.{Offer, offer, first_offer}
use Rattle.bay_model.specs.Reports as reports
use Rattle.brcb_state.specs.declared.told.Next.{Next}
use Rattle.brcb_state.specs.Changes.{is_by}
use Rattle.entry_ring.specs.Held.{Held}
use Rattle.entry_ring.specs.Ringed.{Ringed, entry_at}
use Rattle.entry_ring.specs.Standing.{held}
use Rattle.report_block.specs.declared.block.ReportBlock.{ReportBlock}
use Rattle.report_block.specs.Standing.{IsReadable, Stands, BlocksStand}
use Rattle.report_block.proofs.UpLaws.{IsUp, members-few, selected-up}
use Rattle.report_block.specs.Offers.{Offered, offered_by, earlier, first_offered, chosen, chosen_of}

-- an offer of the model, and the same one as the parts have it
pub record IsTold (m : Model) (past : Past) (o : Offer) (p : Offered) : Type 0 where
  pub block : p.block ≡ o.block
  pub id : p.next.id ≡ o.id
  pub sq : p.next.sq ≡ sq_num o.block past
  pub ovfl : p.next.ovfl ≡ is_overflown m o.block past
  pub entry : p.entry ≡ held o.entry
  pub readable : IsReadable o.entry
  pub few : length o.entry.members ≤ 256

abbrev pub AreTold : Model → Past → Option Offer → Option Offered → Type 0
AreTold m past None None = Unit {0}
AreTold m past (Some o) (Some p) = IsTold m past o p
AreTold m past None (Some p) = ⊥
AreTold m past (Some o) None = ⊥

-- the entry of a number above the front
pub entry-found : (r : Ringed) (es : List Entry) (n : ℕ) → r.entries ≡ drop r.front (map held es) → r.newest ≡ length es → r.front < n → n ≤ length es
    → entry_at r n ≡ option_map held (slice_get es (n - 1))
entry-found r es n entries newest above within =
    let place : r.front + (n - r.front - 1) ≡ n - 1 = omega (arith, above) in
    let there : (nat_lt r.front n && nat_le n r.newest) ≡ true = both (leb_tells (suc r.front) n) (leb_tells n r.newest) in
    rw there (ap (λ l. slice_get l (n - r.front - 1)) entries ∙ (slice_get-drop r.front (n - r.front - 1) (map held es) ∙ (ap (slice_get (map held es)) place ∙ slice_get-map held es (n - 1)))) where
      both : ((nat_le (suc r.front) n ≡ true) × (suc r.front ≤ n)) ⊎ ((nat_le (suc r.front) n ≡ false) × (n < suc r.front)) → ((nat_le n r.newest ≡ true) × (n ≤ r.newest)) ⊎ ((nat_le n r.newest ≡ false) × (r.newest < n)) → (nat_lt r.front n && nat_le n r.newest) ≡ true
      both (inl a) (inl b) = rw (a.0, b.0) refl
      both (inr a) x = absurd (omega (arith, a.1, above))
      both (inl a) (inr b) = absurd (omega (arith, b.1, newest, within))

enabled-same : (a : AssocNo) (kept : Option Holder) (e : Option ℕ) → option_map (λ (h : Holder). h.by.0) kept ≡ e → is_by a kept ≡ option_map_or (λ e. e == a.0) e false
enabled-same a None e h = ap (λ e. option_map_or (λ e. e == a.0) e false) h
enabled-same a (Some x) e h = ap (λ e. option_map_or (λ e. e == a.0) e false) h

module _ (m : Model) (past : Past) (b : ℕ) where
  -- the entry of the model at a number, and what is kept of it
  told-entry : (n : Next) (found : Option Entry) → ((e : Entry) → found ≡ Some e → IsReadable e) → ((e : Entry) → found ≡ Some e → IsUp e) → n.sq ≡ sq_num b past → n.ovfl ≡ is_overflown m b past
      → AreTold m past (option_map (λ (e : Entry). record { block = b; id = n.id; entry = e }) found) (option_map (λ (e : Held). record { block = b; next = n; entry = e }) (option_map held found))
  told-entry n None readable up sq ovfl = tt
  told-entry n (Some e) readable up sq ovfl = record { block = refl; id = refl; sq = sq; ovfl = ovfl; entry = refl; readable = readable e refl; few = members-few e.members (up e refl) (readable e refl) }

  abbrev offer_at : Option Entry → ℕ → Option Offer
  offer_at found i = option_map (λ (e : Entry). record { block = b; id = i; entry = e }) found

  abbrev offered_at : Ringed → Next → Option Offered
  offered_at r n = option_map (λ (e : Held). record { block = b; next = n; entry = e }) (entry_at r n.id)

  -- where a has enabled the block, and there is a next entry
  told-if : (t u v : Bool) (i : ℕ) (n : Next) (es : List Entry) (r : Ringed) → v ≡ u → n.id ≡ i → (u ≡ true → entry_at r n.id ≡ option_map held (slice_get es (i - 1))) → All IsReadable es → All IsUp es
      → n.sq ≡ sq_num b past → n.ovfl ≡ is_overflown m b past
      → AreTold m past (if t then option_and_then (λ i. offer_at (slice_get es (i - 1)) i) (if u then Some i else None) else None) (option_and_then (offered_at r) (if t && v then Some n else None))
  told-if false u v i n es r same id entry readable up sq ovfl = tt
  told-if true false v i n es r same id entry readable up sq ovfl = rw same tt
  told-if true true v i n es r same id entry readable up sq ovfl =
      rw (same, ← id) (subst (λ (e : Option Held). AreTold m past (offer_at (slice_get es (n.id - 1)) n.id) (option_map (λ (e : Held). record { block = b; next = n; entry = e }) e)) (sym (entry refl ∙ ap (λ j. option_map held (slice_get es (j - 1))) (sym id)))
      (told-entry n (slice_get es (n.id - 1)) (λ e is. all-at IsReadable es (n.id - 1) e readable is) (λ e is. all-at IsUp es (n.id - 1) e up is) sq ovfl))

  -- the next entry of the block
  pub told-next : (a : AssocNo) (part : ReportBlock) → Stands part m b past → AreTold m past (if is_enabled_by b a.0 past then offer m b past else None) (offered_by a b part)
  told-next a part st =
      let r = part.ring in
      let es = selected m b past in
      let k = part.block.cursor in
      let top : max k r.front ≡ max (cursor m b past) (front m b past) = ap (λ x. max x r.front) st.block.cursor ∙ ap (max (cursor m b past)) st.ring.front in
      let n : Next = record { id = suc (max k r.front); ovfl = nat_lt k r.front; sq = part.block.count } in
      rw (← enabled-same a part.block.enabler (enabler b past) st.block.enabler)
      (told-if (is_by a part.block.enabler) (nat_le (suc (max (cursor m b past) (front m b past))) (length es)) (nat_lt (max k r.front) r.newest) (suc (max (cursor m b past) (front m b past))) n es r
      (ap (λ x. nat_lt x r.newest) top ∙ ap (nat_lt (max (cursor m b past) (front m b past))) st.ring.newest)
      (ap suc top)
      (λ is. entry-found r es n.id st.ring.entries st.ring.newest (omega arith) (within (suc (max (cursor m b past) (front m b past))) (length es) n.id (ap suc top) is) ∙ ap (λ j. option_map held (slice_get es (j - 1))) (ap suc top))
      st.readable (selected-up m b past) st.block.count (ap (λ x. nat_lt x r.front) st.block.cursor ∙ ap (nat_lt (cursor m b past)) st.ring.front)) where
        within : (i l n : ℕ) → n ≡ i → nat_le i l ≡ true → n ≤ l
        within i l n same is = elim (leb_tells i l) [ inl t ↦ omega (arith, same, t.1) | inr t ↦ let not : true ≡ false = sym is ∙ t.0 in cc ]

told-earlier : (m : Model) (past : Past) (x y : Option Offer) (p q : Option Offered) → AreTold m past x p → AreTold m past y q → AreTold m past (reports.earlier x y) (earlier p q)
told-earlier m past None y None q h k = k
told-earlier m past None y (Some p) q h k = absurd h
told-earlier m past (Some x) y None q h k = absurd h
told-earlier m past (Some x) None (Some p) (Some q) h k = absurd k
told-earlier m past (Some x) (Some y) (Some p) None h k = absurd k
told-earlier m past (Some x) None (Some p) None h k = h
told-earlier m past (Some x) (Some y) (Some p) (Some q) h k =
    let same : nat_le p.entry.step q.entry.step ≡ nat_le x.entry.step y.entry.step = ap (λ (e : Held). nat_le e.step q.entry.step) h.entry ∙ ap (λ (e : Held). nat_le x.entry.step e.step) k.entry in
    rw same (either (nat_le x.entry.step y.entry.step)) where
      either : (t : Bool) → AreTold m past (if t then Some x else Some y) (if t then Some p else Some q)
      either true = h
      either false = k

told-from : (m : Model) (past : Past) (a : AssocNo) (b : ℕ) (ds : List Block) (parts : List ReportBlock) → length parts ≡ length ds
    → ((i : ℕ) (part : ReportBlock) → slice_get parts i ≡ Some part → Stands part m (b + i) past) → AreTold m past (first_offer m a.0 past b ds) (first_offered a b parts)
told-from m past a b [] [] count stand = tt
told-from m past a b [] (part ∷ parts) count stand = absurd (omega (arith, count))
told-from m past a b (d ∷ ds) [] count stand = absurd (omega (arith, count))
told-from m past a b (d ∷ ds) (part ∷ parts) count stand =
    let here : b + 0 ≡ b = omega arith in
    told-earlier m past (if is_enabled_by b a.0 past then offer m b past else None) (first_offer m a.0 past (suc b) ds) (offered_by a b part) (first_offered a (suc b) parts)
    (told-next m past b a part (subst (λ k. Stands part m k past) here (stand 0 part refl)))
    (told-from m past a (suc b) ds parts (omega (arith, count)) (λ i q is. let next : b + suc i ≡ suc b + i = omega arith in subst (λ k. Stands q m k past) next (stand (suc i) q is)))

-- the first offers are the same one
pub told : (m : Model) (past : Past) (a : AssocNo) (parts : List ReportBlock) → length parts ≡ length m.blocks → BlocksStand m past parts → AreTold m past (first_offer m a.0 past 0 m.blocks) (first_offered a 0 parts)
told m past a parts count stand = told-from m past a 0 m.blocks parts count (λ i part is. let same : i ≡ 0 + i = omega arith in subst (λ k. Stands part m k past) same (stand i part is))

pub told-choice : (m : Model) (past : Past) (x : Option Offer) (p : Option Offered) → AreTold m past x p → option_map chosen x ≡ option_map chosen_of p
told-choice m past None None h = refl
told-choice m past None (Some p) h = absurd h
told-choice m past (Some o) None h = absurd h
told-choice m past (Some o) (Some p) h = ap (λ b. Some (record { block = b; id = o.id; entry = held o.entry })) (sym h.block)
    ∙ (ap (λ i. Some (record { block = p.block; id = i; entry = held o.entry })) (sym h.id) ∙ ap (λ e. Some (record { block = p.block; id = p.next.id; entry = e })) (sym h.entry))

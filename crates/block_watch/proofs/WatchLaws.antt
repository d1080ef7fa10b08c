-- The index of the members of all data sets follows the blocks.
use Rattle.std.proofs.Common.{◌≡◌, ◌≢◌, ◌<◌, ◌≤◌, ℕ, zero, suc, List, [], ◌∷◌, length, map, replicate, get_or, slice_index_or, refl, ap, ap₂, sym, ◌∙◌, subst, arith, inl, inr, None, Some}
use Rattle.std.specs.Prelude.{slice_get, slice_set, Option}
use Rattle.std.proofs.lemmas.Bool.{cases_eq}
use Rattle.std.proofs.lemmas.List.{length-map, length-set, map-set, set-get_or, get_or-set_same, get_or-set_other}
use Rattle.std.proofs.lemmas.Option.{slice_get-get_or, get_or_from_slice_get, slice_get_within}
use Rattle.list_laws.proofs.Places.{got-map, got-set}
use Rattle.sv_base.specs.Filled.{Filled}
use Rattle.sv_base.specs.declared.components.Comp.{Comp}
use Rattle.sv_base.specs.declared.components.Comp.TheVariants as comps
use Rattle.bay_model.specs.declared.flags.Trg.{Trg}
use Rattle.bay_model.specs.declared.note.Mention.{Mention}
use Rattle.bay_model.specs.declared.tables.MemberShape.{MemberShape}
use Rattle.bay_model.specs.declared.tables.NodeRow.{NodeRow}
use Rattle.set_view.specs.Shapes.{shapes_of}
use Rattle.data_sets.specs.Books.{Book, IsSet, nodes_in}
use Rattle.brcb_state.specs.Components.{trg_of}
use Rattle.touch_index.specs.declared.touch.Touch.{Touch}
use Rattle.touch_index.specs.Indexed.{Indexed, none, pairs, block_at, touches_from, with_members}
use Rattle.touch_index.specs.Gathered.{IsSetOf}
use Rattle.touch_index.specs.Gathering.{Gathered, no_note, no_trg, note_at, trg_at, AreEmpty}
use Rattle.report_block.specs.declared.block.ReportBlock.{ReportBlock}
use Rattle.block_watch.specs.declared.watch.Watch.{Watch}
use Rattle.block_watch.specs.Watched.{IsIndexed, IsWatching, AreBlank, index_after, members_in, options_in}
use Rattle.list_laws.proofs.Options.{some_is}

-- another component than DatSet leaves the number of the data set
abbrev pub KeepsSet : Comp → Option ℕ → Option ℕ → Type 0
KeepsSet comps.DatSet was now = Unit {0}
KeepsSet _ was now = now ≡ was

-- ---- lists

-- what stands at a place
pub at-place : {A : Type 0} (xs : List A) (i : ℕ) (x : A) → i < length xs → x ≡ slice_index_or xs i x → slice_get xs i ≡ Some x
at-place xs i x below is = slice_get-get_or xs i x below ∙ ap Some (sym is)

pub got-here : {A : Type 0} (xs : List A) (i : ℕ) (x y : A) → slice_get xs i ≡ Some x → slice_get (slice_set xs i y) i ≡ Some y
got-here xs i x y at =
    let below = slice_get_within xs i x at in
    slice_get-get_or (slice_set xs i y) i y (omega (arith, below, length-set xs i y)) ∙ ap Some (get_or-set_same xs i y y below)

pub got-there : {A : Type 0} (xs : List A) (i j : ℕ) (x y : A) → j ≢ i → slice_get xs j ≡ Some x → slice_get (slice_set xs i y) j ≡ Some x
got-there xs i j x y apart at =
    let below = slice_get_within xs j x at in
    slice_get-get_or (slice_set xs i y) j x (omega (arith, below, length-set xs i y)) ∙ ap Some (get_or-set_other xs i j y x apart ∙ get_or_from_slice_get xs j x x at)

-- a list whose every element is what f makes of the other's
pub mapped : {A : Type 0} (f : A → A) (xs ys : List A) → length ys ≡ length xs → ((i : ℕ) (x : A) → slice_get xs i ≡ Some x → slice_get ys i ≡ Some (f x)) → ys ≡ map f xs
mapped f [] [] count at = refl
mapped f [] (y ∷ ys) count at = absurd (omega (arith, count))
mapped f (x ∷ xs) [] count at = absurd (omega (arith, count))
mapped f (x ∷ xs) (y ∷ ys) count at = ap₂ (λ a rest. a ∷ rest) (some_is y (f x) (at 0 x refl)) (mapped f xs ys (omega (arith, count)) (λ i z h. at (suc i) z h))

pub part-there : (parts : List ReportBlock) (b : ℕ) → b < length parts → (part : ReportBlock) × (slice_get parts b ≡ Some part)
part-there [] b below = absurd (omega (arith, below))
part-there (p ∷ parts) zero below = (p, refl)
part-there (p ∷ parts) (suc b) below = part-there parts b (omega (arith, below))

-- ---- the trigger options of a block

pub option-at : (parts : List ReportBlock) (b : ℕ) (part : ReportBlock) → slice_get parts b ≡ Some part → trg_at (options_in parts) b ≡ trg_of part.block.options.trg_ops
option-at [] b part at = cc
option-at (p ∷ parts) zero part at = ap (λ (q : ReportBlock). trg_of q.block.options.trg_ops) (some_is p part at)
option-at (p ∷ parts) (suc b) part at = option-at parts b part at

-- ---- the index

-- another block's members stay
pub set-stays : (bs : List (Filled Touch)) (b k : ℕ) (f : Filled Touch) (ms : List MemberShape) → k ≢ b → IsSetOf bs k ms → IsSetOf (slice_set bs b f) k ms
set-stays bs b k f ms apart is = ap (λ (g : Filled Touch). g.items) (get_or-set_other bs b k f none apart) ∙ is

-- members that were put
pub set-put : (bs : List (Filled Touch)) (b : ℕ) (ms : List MemberShape) → b < length bs → IsSetOf (with_members b ms bs) b ms
set-put bs b ms below = ap (λ (g : Filled Touch). g.items) (get_or-set_same bs b (record { items = touches_from b 1 ms; room = (block_at bs b).room }) none below)

pub put-stays : (bs : List (Filled Touch)) (b k : ℕ) (ms own : List MemberShape) → k ≢ b → IsSetOf bs k own → IsSetOf (with_members b ms bs) k own
put-stays bs b k ms own apart is = set-stays bs b k (record { items = touches_from b 1 ms; room = (block_at bs b).room }) own apart is

pub put-count : (bs : List (Filled Touch)) (b : ℕ) (ms : List MemberShape) → length (with_members b ms bs) ≡ length bs
put-count bs b ms = length-set bs b (record { items = touches_from b 1 ms; room = (block_at bs b).room })

-- the memory of a block that was put
room-stays : (bs : List (Filled Touch)) (b k : ℕ) (f : Filled Touch) → b < length bs → f.room ≡ (block_at bs b).room → (block_at (slice_set bs b f) k).room ≡ (block_at bs k).room
room-stays bs b k f below same = elim (cases_eq k b) [
  | inl e ↦ ap (λ j. (block_at (slice_set bs b f) j).room) e ∙ (ap (λ (g : Filled Touch). g.room) (get_or-set_same bs b f none below) ∙ (same ∙ ap (λ j. (block_at bs j).room) (sym e)))
  | inr e ↦ ap (λ (g : Filled Touch). g.room) (get_or-set_other bs b k f none e)
]

pub put-room : (bs : List (Filled Touch)) (b k : ℕ) (ms : List MemberShape) → b < length bs → (block_at (with_members b ms bs) k).room ≡ (block_at bs k).room
put-room bs b k ms below = room-stays bs b k (record { items = touches_from b 1 ms; room = (block_at bs b).room }) below refl

-- ---- empty notes

abbrev blank : Filled Mention
blank = record { items = []; room = 256 }

pub blank-new : (n : ℕ) (g : Gathered) → g.notes ≡ replicate n (record { items = []; room = 256 }) → AreBlank n g
blank-new n g is = subst (λ (l : List (Filled Mention)). AreBlank n (record { notes = l; touched = g.touched })) (sym is) (record { count = counted n; empty = λ i d h. ap (λ (f : Filled Mention). f.items) (at n i d h); rooms = λ b h. ap (λ (f : Filled Mention). f.room) (at n b no_note (omega (arith, h, counted n))) }) where
  counted : (n : ℕ) → length (replicate n blank) ≡ n
  counted zero = refl
  counted (suc n) = omega (arith, counted n)

  at : (n i : ℕ) (d : Filled Mention) → i < length (replicate n blank) → get_or (replicate n blank) i d ≡ blank
  at zero i d h = absurd (omega (arith, h))
  at (suc n) zero d h = refl
  at (suc n) (suc i) d h = at n i d (omega (arith, h))

-- ---- parts that keep their data sets and their options

module _ (rows : List NodeRow) (book : Book) where
  abbrev shapes : ReportBlock → List MemberShape
  shapes = members_in rows book

  -- the members of a part of the same data set
  shapes-same : (p q : ReportBlock) → p.set ≡ q.set → shapes p ≡ shapes q
  shapes-same p q same = ap (λ k. shapes_of rows (nodes_in book k)) same

  pub watching-map : (n : ℕ) (parts : List ReportBlock) (w : Watch) (f : ReportBlock → ReportBlock) → ((p : ReportBlock) → (f p).set ≡ p.set) → ((p : ReportBlock) → (f p).block.options ≡ p.block.options) → IsWatching rows book n parts w → IsWatching rows book n (map f parts) w
  watching-map n parts w f same options is = record {
    index = record {
      attrs = is.index.attrs;
      count = is.index.count ∙ sym (length-map parts f);
      touches = λ b part at. (let was = got-map f parts b part at in
          subst (λ (p : ReportBlock). IsSetOf w.index.blocks b (shapes p)) was.2 (subst (λ (l : List MemberShape). IsSetOf w.index.blocks b l) (sym (shapes-same (f was.0) was.0 (same was.0))) (is.index.touches b was.0 was.1)));
      roomy = is.index.roomy;
    };
    options = is.options ∙ alike parts;
    notes = subst (λ k. AreBlank k w.notes) (sym (length-map parts f)) is.notes;
  } where
    alike : (ps : List ReportBlock) → options_in ps ≡ options_in (map f ps)
    alike [] = refl
    alike (p ∷ ps) = ap₂ (λ (t : Trg) (ts : List Trg). t ∷ ts) (ap (λ o. trg_of o.trg_ops) (sym (options p))) (alike ps)

  -- the index has the members of one part more, which has the data set that it had
  indexed-set : (n : ℕ) (parts : List ReportBlock) (x : Indexed) (i : ℕ) (p q : ReportBlock) → slice_get parts i ≡ Some p → q.set ≡ p.set → IsIndexed rows book n parts x → IsIndexed rows book n (slice_set parts i q) x
  indexed-set n parts x i p q there same is = record {
    attrs = is.attrs;
    count = is.count ∙ sym (length-set parts i q);
    touches = λ b part at. elim (got-set parts i b q part at) [
      | inl e ↦ subst (λ (l : List MemberShape). IsSetOf x.blocks b l) (sym (ap shapes e.1 ∙ shapes-same q p same)) (is.touches b p (ap (slice_get parts) e.0 ∙ there))
      | inr e ↦ is.touches b part e.1
    ];
    roomy = is.roomy;
  }

  -- the index after a write of one part, which has the data set that it had where another component than DatSet was written
  indexed-written : (n : ℕ) (parts : List ReportBlock) (x : Indexed) (i : ℕ) (comp : Comp) (p q : ReportBlock) → slice_get parts i ≡ Some p → KeepsSet comp p.set q.set → IsIndexed rows book n parts x
      → IsIndexed rows book n (slice_set parts i q) (index_after comp i (shapes q) x)
  indexed-written n parts x i comps.DatSet p q there keeps is =
      let own : Filled Touch = record { items = touches_from i 1 (shapes q); room = (block_at x.blocks i).room } in
      let below : i < length x.blocks = omega (arith, slice_get_within parts i p there, is.count) in
      record {
        attrs = is.attrs;
        count = length-set x.blocks i own ∙ (is.count ∙ sym (length-set parts i q));
        touches = λ b part at. elim (got-set parts i b q part at) [
          | inl e ↦ subst (λ j. IsSetOf (slice_set x.blocks i own) j (shapes part)) (sym e.0)
              (subst (λ (l : List MemberShape). IsSetOf (slice_set x.blocks i own) i l) (ap shapes (sym e.1)) (ap (λ (g : Filled Touch). g.items) (get_or-set_same x.blocks i own none below)))
          | inr e ↦ set-stays x.blocks i b own (shapes part) e.0 (is.touches b part e.1)
        ];
        roomy = λ b k within there. omega (arith, room-stays x.blocks i b own below refl, is.roomy b k (omega (arith, within, length-set x.blocks i own)) there);
      }
  indexed-written n parts x i _ p q there keeps is = indexed-set n parts x i p q there keeps is

  -- there is capacity for the members of each part
  pub room-for : (n : ℕ) (parts : List ReportBlock) (x : Indexed) (b : ℕ) (p : ReportBlock) → IsIndexed rows book n parts x → b < length x.blocks → IsSet book p.set → pairs (shapes p) ≤ (block_at x.blocks b).room
  room-for n parts x b p is below set = by p.set set where
    by : (o : Option ℕ) → IsSet book o → pairs (shapes_of rows (nodes_in book o)) ≤ (block_at x.blocks b).room
    by None set = omega arith
    by (Some k) set = is.roomy b k below set

  -- one part after a write of a component
  pub watching-written : (n : ℕ) (parts : List ReportBlock) (w v : Watch) (i : ℕ) (comp : Comp) (x y : ReportBlock) → slice_get parts i ≡ Some x → KeepsSet comp x.set y.set → v.index ≡ index_after comp i (shapes y) w.index → v.notes ≡ w.notes
      → v.options.items ≡ slice_set w.options.items i (trg_of y.block.options.trg_ops) → IsWatching rows book n parts w → IsWatching rows book n (slice_set parts i y) v
  watching-written n parts w v i comp x y there keeps index notes options is = record {
    index = subst (IsIndexed rows book n (slice_set parts i y)) (sym index) (indexed-written n parts w.index i comp x y there keeps is.index);
    options = options ∙ (ap (λ l. slice_set l i (trg_of y.block.options.trg_ops)) is.options ∙ sym (map-set (λ (p : ReportBlock). trg_of p.block.options.trg_ops) parts i y));
    notes = subst (AreBlank (length (slice_set parts i y))) (sym notes) (subst (λ k. AreBlank k w.notes) (sym (length-set parts i y)) is.notes);
  }

  pub watching-same : (n : ℕ) (parts : List ReportBlock) (w : Watch) (i : ℕ) (x y : ReportBlock) → slice_get parts i ≡ Some x → y.set ≡ x.set → y.block.options ≡ x.block.options → IsWatching rows book n parts w → IsWatching rows book n (slice_set parts i y) w
  watching-same n parts w i x y there same options is = record {
    index = indexed-set n parts w.index i x y there same is.index;
    options = is.options ∙ sym (map-set (λ (p : ReportBlock). trg_of p.block.options.trg_ops) parts i y
        ∙ (ap (slice_set (options_in parts) i) (ap (λ o. trg_of o.trg_ops) options ∙ sym (option-at parts i x there)) ∙ set-get_or (options_in parts) i no_trg));
    notes = subst (λ k. AreBlank k w.notes) (sym (length-set parts i y)) is.notes;
  }

-- The index in more capacity, and with one data set more.
use Rattle.std.proofs.Common.{◌≡◌, ◌<◌, ◌≤◌, ◌∙◌, ℕ, suc, List, length, refl, ap, sym, subst, arith, inl, inr, None, Some}
use Rattle.std.specs.Prelude.{slice_get, max, Option}
use Rattle.std.proofs.lemmas.Bool.{cases_eq}
use Rattle.std.proofs.lemmas.Bool.Decides.{leb_tells}
use Rattle.std.proofs.lemmas.List.{length-set, get_or-set_same, get_or-set_other}
use Rattle.sv_base.specs.Filled.{Filled}
use Rattle.bay_model.specs.declared.tables.NodeRow.{NodeRow}
use Rattle.set_view.specs.Shapes.{shapes_of}
use Rattle.data_sets.specs.Books.{Booked, Book, IsSet, nodes_in, no_set, with_set}
use Rattle.data_sets.proofs.BookLaws.{at_front, at_last, length_more}
use Rattle.touch_index.specs.declared.touch.Touch.{Touch}
use Rattle.touch_index.specs.Indexed.{Indexed, none, pairs, block_at, with_room}
use Rattle.touch_index.specs.Gathered.{IsSetOf}
use Rattle.report_block.specs.declared.block.ReportBlock.{ReportBlock}
use Rattle.block_watch.specs.Watched.{IsIndexed, IsRoomier}

-- ---- more capacity

pub roomier-same : (x : Indexed) → IsRoomier x x
roomier-same x = record { attrs = refl; count = refl; items = λ b. refl; rooms = λ b. omega arith }

pub roomier-then : (x y z : Indexed) → IsRoomier x y → IsRoomier y z → IsRoomier x z
roomier-then x y z one two = record {
  attrs = two.attrs ∙ one.attrs;
  count = two.count ∙ one.count;
  items = λ b. two.items b ∙ one.items b;
  rooms = λ b. omega (arith, one.rooms b, two.rooms b);
}

module _ (x : Indexed) (b most : ℕ) (below : b < length x.blocks) where
  abbrev own : Filled Touch
  own = record { items = (block_at x.blocks b).items; room = max (block_at x.blocks b).room most }

  here : (block_at (with_room b most x.blocks) b).room ≡ max (block_at x.blocks b).room most
  here = ap (λ (g : Filled Touch). g.room) (get_or-set_same x.blocks b own none below)

  pub roomier-one : IsRoomier x (record { attrs = x.attrs; blocks = with_room b most x.blocks })
  roomier-one = record {
    attrs = refl;
    count = length-set x.blocks b own;
    items = λ k. elim (cases_eq k b) [
      | inl e ↦ ap (λ j. (block_at (with_room b most x.blocks) j).items) e ∙ (ap (λ (g : Filled Touch). g.items) (get_or-set_same x.blocks b own none below) ∙ ap (λ j. (block_at x.blocks j).items) (sym e))
      | inr e ↦ ap (λ (g : Filled Touch). g.items) (get_or-set_other x.blocks b k own none e)
    ];
    rooms = λ k. elim (cases_eq k b) [
      | inl e ↦ (let now = ap (λ j. (block_at (with_room b most x.blocks) j).room) e in let was = ap (λ j. (block_at x.blocks j).room) e in omega (arith, now, was, here))
      | inr e ↦ (let same = ap (λ (g : Filled Touch). g.room) (get_or-set_other x.blocks b k own none e) in omega (arith, same))
    ];
  }

  pub room-made : most ≤ (block_at (with_room b most x.blocks) b).room
  room-made = omega (arith, here)

-- ---- one data set more

-- the members of the sets that were there
pub members-kept : (rows : List NodeRow) (book : Book) (s : Booked) (o : Option ℕ) → IsSet book o → shapes_of rows (nodes_in (with_set s book) o) ≡ shapes_of rows (nodes_in book o)
members-kept rows book s None is = refl
members-kept rows book s (Some k) is = ap (λ (b : Booked). shapes_of rows b.nodes) (at_front book.sets s no_set k is)

module _ (rows : List NodeRow) (book : Book) (s : Booked) (n : ℕ) (parts : List ReportBlock) (x y : Indexed) (was : IsIndexed rows book n parts x) (more : IsRoomier x y)
    (sets : (b : ℕ) (part : ReportBlock) → slice_get parts b ≡ Some part → IsSet book part.set) (roomy : (b : ℕ) → b < length x.blocks → pairs (shapes_of rows s.nodes) ≤ (block_at y.blocks b).room) where
  room-at : (b k : ℕ) → b < length x.blocks → k < length (with_set s book).sets → pairs (shapes_of rows (nodes_in (with_set s book) (Some k))) ≤ (block_at y.blocks b).room
  room-at b k below there = elim (leb_tells (suc k) (length book.sets)) [
    | inl t ↦ omega (arith, ap pairs (members-kept rows book s (Some k) t.1), was.roomy b k below t.1, more.rooms b)
    | inr t ↦
        let last : k ≡ length book.sets = omega (arith, t.1, there, length_more book.sets s) in
        let is = ap (λ j. pairs (shapes_of rows (nodes_in (with_set s book) (Some j)))) last ∙ ap (λ (b : Booked). pairs (shapes_of rows b.nodes)) (at_last book.sets s no_set) in
        omega (arith, is, roomy b below)
  ]

  pub indexed-defined : IsIndexed rows (with_set s book) n parts y
  indexed-defined = record {
    attrs = more.attrs ∙ was.attrs;
    count = more.count ∙ was.count;
    touches = λ b part at. more.items b ∙ subst (IsSetOf x.blocks b) (sym (members-kept rows book s part.set (sets b part at))) (was.touches b part at);
    roomy = λ b k below there. room-at b k (omega (arith, below, more.count)) there;
  }

-- and without a further one
pub indexed-roomier : (rows : List NodeRow) (book : Book) (n : ℕ) (parts : List ReportBlock) (x y : Indexed) → IsRoomier x y → IsIndexed rows book n parts x → IsIndexed rows book n parts y
indexed-roomier rows book n parts x y more was = record {
  attrs = more.attrs ∙ was.attrs;
  count = more.count ∙ was.count;
  touches = λ b part at. more.items b ∙ was.touches b part at;
  roomy = λ b k below there. omega (arith, more.rooms b, was.roomy b k (omega (arith, below, more.count)) there);
}

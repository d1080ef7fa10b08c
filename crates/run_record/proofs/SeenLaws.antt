-- The words of a text that is read in place.
use Rattle.std.proofs.Common.{◌≡◌, ℕ, ◌+◌, ◌%◌, nat_lt, Bool, true, false, not, ◌||◌, ◌&&◌, ◌==◌, cond, List, [], ◌∷◌, ◌++◌, length, refl, sym, ap, ◌∙◌, arith}
use Rattle.std.specs.Prelude.{Option, Some, None, Result, Err}
use Rattle.std.specs.Option.{is_some}
use Rattle.std.specs.Borrow.{Bor}
use Rattle.std.proofs.lemmas.Bool.{cond-true}
use Rattle.std.proofs.lemmas.Bool.Decides.{nat_tests}
use Rattle.std.specs.List.{All, list_any, onto_first, count_by}
use Rattle.std.proofs.lemmas.List.Splits.{slice_split_at, slice_split_none, length-slice_split}
use Rattle.text_words.specs.Words.{words_of}
use Rattle.text_words.specs.Numbers.{number_within}
use Rattle.text_words.specs.Values.{truth_at}
use Rattle.run_record.specs.Contents.{numbered, assoc_at, truth_line, set_at, content_at}
use Rattle.run_record.specs.Judging.{tell_at}
use Rattle.run_record.specs.Seen.{words_in, one_of, two_of, four_of, just}
use Rattle.run_record.specs.declared.fault.Kind.{Kind}
use Rattle.run_record.specs.declared.fault.Kind.TheVariants as kinds
use Rattle.run_record.specs.declared.keyword.Keyword.TheVariants as keywords
use Rattle.run_record.specs.declared.line.RecLine.{RecLine}
use Rattle.run_record.specs.declared.line.RecLine.TheVariants as lines

-- the words of a text with a space, and of one without
pub first-word : (text word more : List ℕ) → text ≡ word ++ 32 ∷ more → All (λ b. (b == 32) ≡ false) word → words_of text ≡ word ∷ words_of more
first-word text word more is none = ap words_of is ∙ slice_split_at (λ b. b == 32) word 32 more none refl

pub last-word : (text : List ℕ) → All (λ b. (b == 32) ≡ false) text → words_of text ≡ text ∷ []
last-word text none = slice_split_none (λ b. b == 32) text none

abbrev is_nothing : List ℕ → Bool
is_nothing w = length w == 0

-- a word is empty, of those after a word that is empty so far or not
abbrev pub empties : Bool → List ℕ → Bool
empties so [] = so
empties so (b ∷ bs) = (so && (b == 32)) || empties (b == 32) bs

some-octet : (x : ℕ) (w : List ℕ) → is_nothing (x ∷ w) ≡ false
some-octet x w = grind (arith, nat_tests)

onto-any : (x : ℕ) (part : List ℕ) (parts : List (List ℕ)) → list_any is_nothing ((x ∷ part) ∷ parts) ≡ list_any is_nothing parts
onto-any x part parts = ap (λ b. b || list_any is_nothing parts) (some-octet x part)

onto-twice : (x y : ℕ) (parts : List (List ℕ)) → list_any is_nothing (onto_first x (onto_first y parts)) ≡ list_any is_nothing (onto_first y parts)
onto-twice x y [] = onto-any x (y ∷ []) [] ∙ sym (onto-any y [] [])
onto-twice x y (part ∷ parts) = onto-any x (y ∷ part) parts ∙ sym (onto-any y part parts)

abbrev Told : List ℕ → Type 0
Told text = (list_any is_nothing (words_of text) ≡ empties true text) × ((x : ℕ) → list_any is_nothing (onto_first x (words_of text)) ≡ empties false text)

abbrev split : ℕ → List ℕ → Bool → List (List ℕ)
split b bs so = cond so ([] ∷ words_of bs) (onto_first b (words_of bs))

told-next : (b : ℕ) (bs : List ℕ) (so : Bool) → (b == 32) ≡ so → Told bs → Told (b ∷ bs)
told-next b bs true is rest = (
  ap (λ c. list_any is_nothing (split b bs c)) is ∙ sym (ap (λ c. (true && c) || empties c bs) is),
  λ x. ap (λ c. list_any is_nothing (onto_first x (split b bs c))) is ∙ (onto-any x [] (words_of bs) ∙ (rest.0 ∙ sym (ap (λ c. (false && c) || empties c bs) is))),
)
told-next b bs false is rest = (
  ap (λ c. list_any is_nothing (split b bs c)) is ∙ (rest.1 b ∙ sym (ap (λ c. (true && c) || empties c bs) is)),
  λ x. ap (λ c. list_any is_nothing (onto_first x (split b bs c))) is ∙ (onto-twice x b (words_of bs) ∙ (rest.1 b ∙ sym (ap (λ c. (false && c) || empties c bs) is))),
)

told : (text : List ℕ) → Told text
told [] = (refl, λ x. onto-any x [] [])
told (b ∷ bs) = told-next b bs (b == 32) refl (told bs)

-- a word is empty exactly where a space stands first, last or after another
pub empties-told : (text : List ℕ) → list_any is_nothing (words_of text) ≡ empties true text
empties-told text = (told text).0

-- words of which one is empty say nothing
pub empty-told : (ws : List (List ℕ)) → list_any is_nothing ws ≡ true → Err kinds.Word ≡ tell_at ws
unfolding tell_at
empty-told [] some = refl
empty-told (w ∷ ws) some = sym (cond-true _ _ _ some)

some-words : (text : List ℕ) → (length (words_of text) == 0) ≡ false
some-words text = let count = length-slice_split (λ b. b == 32) text in grind (arith, nat_tests)

pub none-left : (rest : Option (Bor (List ℕ))) (none : Bool) → is_some rest ≡ not none → none ≡ (length (words_in rest) == 0)
none-left None true e = refl
none-left None false e = absurd cc e
none-left (Some text) true e = absurd cc e
none-left (Some text) false e = sym (some-words text.now)

parity : (n : ℕ) → (n % 2 == 1) ≡ (nat_lt 0 (n + 1) && ((n + 1) % 2 == 0))
parity n = grind (arith, nat_tests)

pub pairs-counted : (text : List ℕ) (odd : Bool) → odd ≡ (count_by (λ b. b == 32) text % 2 == 1) → odd ≡ (nat_lt 0 (length (words_of text)) && (length (words_of text) % 2 == 0))
pairs-counted text odd is =
    let count : length (words_of text) ≡ count_by (λ b. b == 32) text + 1 = length-slice_split (λ b. b == 32) text in
    is ∙ (parity (count_by (λ b. b == 32) text) ∙ ap (λ n. nat_lt 0 n && (n % 2 == 0)) (sym count))

-- what is told by n words is what the words after a first word say
pub at_content : (ws : List (List ℕ)) (r : Result RecLine Kind) → r ≡ just (one_of ws) (λ word. numbered (number_within 441763200000 4294967295999 word) lines.At) → r ≡ content_at keywords.At ws
unfolding content_at
at_content [] r is = is
at_content (word ∷ []) r is = is
at_content (word ∷ second ∷ more) r is = is

pub write_content : (ws : List (List ℕ)) (r : Result RecLine Kind) → r ≡ just (four_of ws) (λ ws. numbered (assoc_at ws.0) (λ n. lines.Write n ws.1 ws.2 ws.3)) → r ≡ content_at keywords.Write ws
unfolding content_at
write_content [] r is = is
write_content (word ∷ []) r is = is
write_content (word ∷ second ∷ []) r is = is
write_content (word ∷ second ∷ third ∷ []) r is = is
write_content (word ∷ second ∷ third ∷ fourth ∷ []) r is = is
write_content (word ∷ second ∷ third ∷ fourth ∷ fifth ∷ more) r is = is

pub pdu_content : (ws : List (List ℕ)) (r : Result RecLine Kind) → r ≡ just (two_of ws) (λ ws. numbered (assoc_at ws.0) (λ n. lines.Pdu n ws.1)) → r ≡ content_at keywords.Pdu ws
unfolding content_at
pdu_content [] r is = is
pdu_content (word ∷ []) r is = is
pdu_content (word ∷ second ∷ []) r is = is
pdu_content (word ∷ second ∷ third ∷ more) r is = is

pub piece_content : (ws : List (List ℕ)) (r : Result RecLine Kind) → r ≡ just (two_of ws) (λ ws. numbered (assoc_at ws.0) (λ n. lines.Piece n ws.1)) → r ≡ content_at keywords.Piece ws
unfolding content_at
piece_content [] r is = is
piece_content (word ∷ []) r is = is
piece_content (word ∷ second ∷ []) r is = is
piece_content (word ∷ second ∷ third ∷ more) r is = is

pub done_content : (ws : List (List ℕ)) (r : Result RecLine Kind) → r ≡ just (two_of ws) (λ ws. truth_line (truth_at ws.1) (lines.Done ws.0)) → r ≡ content_at keywords.Done ws
unfolding content_at
done_content [] r is = is
done_content (word ∷ []) r is = is
done_content (word ∷ second ∷ []) r is = is
done_content (word ∷ second ∷ third ∷ more) r is = is

pub block_content : (ws : List (List ℕ)) (r : Result RecLine Kind) → r ≡ just (two_of ws) (λ ws. truth_line (truth_at ws.1) (lines.Block ws.0)) → r ≡ content_at keywords.Block ws
unfolding content_at
block_content [] r is = is
block_content (word ∷ []) r is = is
block_content (word ∷ second ∷ []) r is = is
block_content (word ∷ second ∷ third ∷ more) r is = is

pub take_content : (ws : List (List ℕ)) (r : Result RecLine Kind) → r ≡ just (one_of ws) (λ word. numbered (assoc_at word) lines.Take) → r ≡ content_at keywords.Take ws
unfolding content_at
take_content [] r is = is
take_content (word ∷ []) r is = is
take_content (word ∷ second ∷ more) r is = is

pub lost_content : (ws : List (List ℕ)) (r : Result RecLine Kind) → r ≡ just (one_of ws) (λ word. numbered (assoc_at word) lines.Lost) → r ≡ content_at keywords.Lost ws
unfolding content_at
lost_content [] r is = is
lost_content (word ∷ []) r is = is
lost_content (word ∷ second ∷ more) r is = is

pub set_content : (ws : List (List ℕ)) (r : Result RecLine Kind) → r ≡ set_at ws → r ≡ content_at keywords.Set ws
unfolding content_at
set_content ws r is = is

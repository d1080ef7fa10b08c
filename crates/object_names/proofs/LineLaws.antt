-- The lines in the order of their numbers, as a stable sort leaves them, and one more line of a block.
use Rattle.std.proofs.Common.{◌≡◌, ℕ, ◌+◌, ◌<◌, cond, List, [], ◌∷◌, ◌++◌, length, get_or, drop, refl, sym, ap, ◌∙◌, append_assoc, nat_le}
use Rattle.std.proofs.lemmas.List.{drop_more}
use Rattle.std.specs.Ordering.{nat_cmp}
use Rattle.std.specs.List.Sorted.{IsSortedByKey, IsStableByKey}
use Rattle.sv_base.specs.declared.config.BlockDef.{BlockDef}
use Rattle.bay_model.specs.NamedLines.{Line, insert_line, in_order, block_line, block_lines}
use Rattle.list_laws.proofs.Sorting as sorting

abbrev number : Line → ℕ
number l = l.line

inserted : (l : Line) (ms : List Line) → sorting.insert_by number l ms ≡ insert_line l ms
inserted l [] = refl
inserted l (m ∷ ms) = ap (λ x. cond (nat_le l.line m.line) (l ∷ m ∷ ms) (m ∷ x)) (inserted l ms)

ordered : (ls : List Line) → sorting.sort_by number ls ≡ in_order ls
ordered [] = refl
ordered (l ∷ ls) = ap (sorting.insert_by number l) (ordered ls) ∙ inserted l (in_order ls)

pub sorted_is : (ls os : List Line) → IsSortedByKey number nat_cmp os → IsStableByKey number nat_cmp ls os → os ≡ in_order ls
sorted_is ls os s t = sorting.sorted_is number ls os s t ∙ ordered ls

-- one more line of a block
pub blocks_more : (xs : List BlockDef) (i b n : ℕ) (d : BlockDef) (out next all : List Line) → i < length xs → d ≡ get_or xs i d → next ≡ out ++ block_line b d ∷ [] → n ≡ b + 1 → out ++ block_lines b (drop i xs) ≡ all
    → next ++ block_lines n (drop (i + 1) xs) ≡ all
blocks_more xs i b n d out next all h e f g k = ap (λ l. l ++ block_lines n (drop (i + 1) xs)) f ∙ (append_assoc out (block_line b d ∷ []) (block_lines n (drop (i + 1) xs))
    ∙ (ap (λ m. out ++ (block_line b d ∷ block_lines m (drop (i + 1) xs))) g ∙ (ap (λ l. out ++ block_lines b l) (ap (λ z. z ∷ drop (i + 1) xs) e ∙ sym (drop_more xs i d h)) ∙ k)))

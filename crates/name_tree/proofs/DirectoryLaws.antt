-- The names of each domain, one domain after another.
use Rattle.std.proofs.Common.{◌≡◌, Option, ℕ, zero, suc, ◌+◌, ◌<◌, List, [], ◌∷◌, ◌++◌, length, get_or, sym, ap, subst, ◌∙◌, arith}
use Rattle.std.specs.Option.{option_map}
use Rattle.sv_base.specs.declared.config.Config.{Config}
use Rattle.name_leaves.specs.Numbers.{number_in}
use Rattle.name_tree.specs.declared.directories.Directory.{Directory}
use Rattle.name_tree.specs.Directories.{IsDirectory, IsDirectoryOf, AllFrom}

pub all-more : (P : ℕ → Directory → Type 0) (n : ℕ) (ds : List Directory) (d : Directory) → AllFrom P n ds → P (n + length ds) d → AllFrom P n (ds ++ d ∷ [])
all-more P n [] d a p = (subst (λ k. P k d) (omega arith) p, tt)
all-more P n (e ∷ es) d a p = (a.0, all-more P (suc n) es d a.1 (subst (λ k. P k d) (omega arith) p))

pub all-at : (P : ℕ → Directory → Type 0) (n : ℕ) (ds : List Directory) (k : ℕ) (d : Directory) → AllFrom P n ds → k < length ds → d ≡ get_or ds k d → P (n + k) d
all-at P n [] k d a h e = absurd (omega (arith, h))
all-at P n (x ∷ xs) zero d a h e = subst (λ m. P m d) (omega arith) (subst (λ y. P n y) (sym e) a.0)
all-at P n (x ∷ xs) (suc k) d a h e = subst (λ m. P m d) (omega arith) (all-at P (suc n) xs k d a.1 (omega (arith, h)) e)

pub directory-at : (c : Config) (ds all : List Directory) (k : ℕ) (d : Directory) → AllFrom (IsDirectory c) 0 all → ds ≡ all → k < length ds → d ≡ get_or ds k d → IsDirectory c k d
directory-at c ds all k d a s h e = subst (λ n. IsDirectory c n d) (omega arith) (all-at (IsDirectory c) 0 ds k d (subst (AllFrom (IsDirectory c) 0) (sym s) a) h e)

-- an item's number by the names of its domain
pub directory-finds : (first : ℕ) (items : List (List ℕ)) (d : Directory) (item : List ℕ) (r : Option ℕ) → IsDirectoryOf first items d → (d.first + length d.items < 4294967296 → r ≡ option_map (λ i. d.first + i) (number_in d.items item)) → r ≡ option_map (λ i. first + i) (number_in items item)
directory-finds first items d item r is found = found (omega (arith, is.first, ap length is.items, is.fits))
    ∙ (ap (λ is. option_map (λ i. d.first + i) (number_in is item)) is.items ∙ ap (λ n. option_map (λ i. n + i) (number_in items item)) is.first)

-- One more object goes after the others, and its lines after theirs.
use Rattle.std.proofs.Common.{◌≡◌, ℕ, ◌≤◌, ◌<◌, Bool, true, false, cond, List, [], ◌∷◌, ◌++◌, map, nat_le, append-nil, append_assoc, refl, sym, ap, ap₂, subst, ◌∙◌, arith}
use Rattle.std.specs.Str.{bytes_eq}
use Rattle.std.proofs.lemmas.Bool.{cond-true, cond-false, lt-leb, le-leb}
use Rattle.std.proofs.lemmas.List.{map-append}
use Rattle.std.proofs.lemmas.Slice.Eq.{bytes_eq-Decides}
use Rattle.sv_base.specs.declared.config.Config.{Config}
use Rattle.sv_base.specs.declared.config.LnDef.{LnDef}
use Rattle.sv_base.specs.declared.config.AttrDef.{AttrDef}
use Rattle.sv_base.specs.declared.config.SetDef.{SetDef}
use Rattle.sv_base.specs.declared.config.BlockDef.{BlockDef}
use Rattle.sv_base.specs.declared.config.CtlDef.{CtlDef}
use Rattle.sv_base.specs.declared.config.SgDef.{SgDef}
use Rattle.cfg_lines.specs.declared.line.Line.{Line}
use Rattle.cfg_lines.specs.declared.line.Line.TheVariants as lines
use Rattle.cfg_lines.specs.Configs.{with_line}
use Rattle.cfg_writing.specs.Written.{number, domain, objects, put_in, in_order, with_members, heading, with_domains}

abbrev pub Under : ℕ → List Line → Type 0
Under n [] = Unit {0}
Under n (x ∷ xs) = (number x < n) × Under n xs

pub under-more : (n m : ℕ) (xs : List Line) → n ≤ m → Under n xs → Under m xs
under-more n m [] le under = tt
under-more n m (x ∷ xs) le under = (omega (arith, le, under.0), under-more n m xs le under.1)

under-left : (n : ℕ) (xs ys : List Line) → Under n (xs ++ ys) → Under n xs
under-left n [] ys under = tt
under-left n (x ∷ xs) ys under = (under.0, under-left n xs ys under.1)

under-right : (n : ℕ) (xs ys : List Line) → Under n (xs ++ ys) → Under n ys
under-right n [] ys under = under
under-right n (x ∷ xs) ys under = under-right n xs ys under.1

under-both : (n : ℕ) (xs ys : List Line) → Under n xs → Under n ys → Under n (xs ++ ys)
under-both n [] ys left right = right
under-both n (x ∷ xs) ys left right = (left.0, under-both n xs ys left.1 right)

put-last : (x : Line) (ys : List Line) → Under (number x) ys → put_in x ys ≡ ys ++ x ∷ []
put-last x [] under = refl
put-last x (y ∷ ys) under = cond-false _ _ _ (lt-leb (number x) (number y) under.0) ∙ ap (λ (zs : List Line). y ∷ zs) (put-last x ys under.1)

put-front : (y x : Line) (ws : List Line) → number y < number x → put_in y (ws ++ x ∷ []) ≡ put_in y ws ++ x ∷ []
put-front y x [] lt = cond-true _ _ _ (le-leb (number y) (number x) (omega (arith, lt)))
put-front y x (w ∷ ws) lt = by (nat_le (number y) (number w)) (put-front y x ws lt)
  where
    by : (b : Bool) → put_in y (ws ++ x ∷ []) ≡ put_in y ws ++ x ∷ [] → cond b (y ∷ w ∷ (ws ++ x ∷ [])) (w ∷ put_in y (ws ++ x ∷ [])) ≡ cond b (y ∷ w ∷ ws) (w ∷ put_in y ws) ++ x ∷ []
    by true e = refl
    by false e = ap (λ (zs : List Line). w ∷ zs) e

under-put : (n : ℕ) (y : Line) (ws : List Line) → number y < n → Under n ws → Under n (put_in y ws)
under-put n y [] lt under = (lt, tt)
under-put n y (w ∷ ws) lt under = by (nat_le (number y) (number w)) (under-put n y ws lt under.1)
  where
    by : (b : Bool) → Under n (put_in y ws) → Under n (cond b (y ∷ w ∷ ws) (w ∷ put_in y ws))
    by true go = (lt, under)
    by false go = (under.0, go)

under-order : (n : ℕ) (xs : List Line) → Under n xs → Under n (in_order xs)
under-order n [] under = tt
under-order n (x ∷ xs) under = under-put n x (in_order xs) under.0 (under-order n xs under.1)

order-middle : (xs zs : List Line) (x : Line) → Under (number x) (xs ++ zs) → in_order (xs ++ x ∷ zs) ≡ in_order (xs ++ zs) ++ x ∷ []
order-middle [] zs x under = put-last x (in_order zs) (under-order (number x) zs under)
order-middle (y ∷ xs) zs x under = ap (put_in y) (order-middle xs zs x under.1) ∙ put-front y x (in_order (xs ++ zs)) under.0

-- where a line is put among the objects
abbrev pub Splits : List Line → List Line → Line → Type 0
Splits old new line = (xs zs : List Line) × (old ≡ xs ++ zs) × (new ≡ xs ++ line ∷ zs)

split-behind : (front old new : List Line) (line : Line) → Splits old new line → Splits (front ++ old) (front ++ new) line
split-behind front old new line s = (front ++ s.0, s.1, ap (λ l. front ++ l) s.2 ∙ sym (append_assoc front s.0 s.1), ap (λ l. front ++ l) s.3 ∙ sym (append_assoc front s.0 (line ∷ s.1)))

split-here : {X : Type 0} (f : X → Line) (xs : List X) (x : X) (zs : List Line) → Splits (map f xs ++ zs) (map f (xs ++ x ∷ []) ++ zs) (f x)
split-here f xs x zs = (map f xs, zs, refl, ap (λ l. l ++ zs) (map-append f xs (x ∷ [])) ∙ append_assoc (map f xs) (f x ∷ []) zs)

split-last : {X : Type 0} (f : X → Line) (xs : List X) (x : X) → Splits (map f xs) (map f (xs ++ x ∷ [])) (f x)
split-last f xs x = (map f xs, [], sym (append-nil (map f xs)), map-append f xs (x ∷ []))

pub split-node : (c : Config) (node : LnDef) → Splits (objects c) (objects (with_line (lines.Ln node) c)) (lines.Ln node)
split-node c node = split-here lines.Ln c.nodes node _

pub split-attr : (c : Config) (attr : AttrDef) → Splits (objects c) (objects (with_line (lines.Attr attr) c)) (lines.Attr attr)
split-attr c attr = split-behind (map lines.Ln c.nodes) _ _ _ (split-here lines.Attr c.attrs attr _)

pub split-set : (c : Config) (set : SetDef) → Splits (objects c) (objects (with_line (lines.Set set) c)) (lines.Set set)
split-set c set = split-behind (map lines.Ln c.nodes) _ _ _ (split-behind (map lines.Attr c.attrs) _ _ _ (split-here lines.Set c.sets set _))

pub split-block : (c : Config) (block : BlockDef) → Splits (objects c) (objects (with_line (lines.Brcb block) c)) (lines.Brcb block)
split-block c block = split-behind (map lines.Ln c.nodes) _ _ _ (split-behind (map lines.Attr c.attrs) _ _ _ (split-behind (map lines.Set c.sets) _ _ _ (split-here lines.Brcb c.blocks block _)))

pub split-control : (c : Config) (control : CtlDef) → Splits (objects c) (objects (with_line (lines.Ctl control) c)) (lines.Ctl control)
split-control c control =
    split-behind (map lines.Ln c.nodes) _ _ _ (split-behind (map lines.Attr c.attrs) _ _ _ (split-behind (map lines.Set c.sets) _ _ _ (split-behind (map lines.Brcb c.blocks) _ _ _ (split-here lines.Ctl c.controls control _))))

pub split-groups : (c : Config) (groups : SgDef) → Splits (objects c) (objects (with_line (lines.Sgcb groups) c)) (lines.Sgcb groups)
split-groups c groups =
    split-behind (map lines.Ln c.nodes) _ _ _ (split-behind (map lines.Attr c.attrs) _ _ _ (split-behind (map lines.Set c.sets) _ _ _ (split-behind (map lines.Brcb c.blocks) _ _ _ (split-behind (map lines.Ctl c.controls) _ _ _ (split-last lines.Sgcb c.groups groups)))))

pub order-more : (old new : List Line) (line : Line) → Splits old new line → Under (number line) old → in_order new ≡ in_order old ++ line ∷ []
order-more old new line s under =
    ap in_order s.3 ∙ (order-middle s.0 s.1 line (subst (Under (number line)) s.2 under) ∙ ap (λ l. in_order l ++ line ∷ []) (sym s.2))

pub under-split : (n : ℕ) (old new : List Line) (line : Line) → Splits old new line → Under n old → number line < n → Under n new
under-split n old new line s under lt =
    let both = subst (Under n) s.2 under in
    subst (Under n) (sym s.3) (under-both n s.0 (line ∷ s.1) (under-left n s.0 s.1 both) (lt, under-right n s.0 s.1 both))

-- the domain of the last object
abbrev pub last_domain : List ℕ → List Line → List ℕ
last_domain before [] = before
last_domain before (line ∷ more) = last_domain (domain line) more

pub last-more : (before : List ℕ) (xs : List Line) (x : Line) → last_domain before (xs ++ x ∷ []) ≡ domain x
last-more before [] x = refl
last-more before (y ∷ xs) x = last-more (domain y) xs x

pub domains-more : (before : List ℕ) (xs : List Line) (x : Line) → with_domains before (xs ++ x ∷ []) ≡ with_domains before xs ++ (heading (last_domain before xs) (domain x) ++ with_members x)
domains-more before [] x = ap (λ l. heading before (domain x) ++ l) (append-nil (with_members x))
domains-more before (y ∷ xs) x =
    let rest = heading (last_domain (domain y) xs) (domain x) ++ with_members x in
    ap (λ l. heading before (domain y) ++ (with_members y ++ l)) (domains-more (domain y) xs x)
    ∙ (ap (λ l. heading before (domain y) ++ l) (sym (append_assoc (with_members y) (with_domains (domain y) xs) rest))
    ∙ sym (append_assoc (heading before (domain y)) (with_members y ++ with_domains (domain y) xs) rest))

pub heading-same : (name : List ℕ) → heading name name ≡ []
heading-same name = cond-true _ _ _ ((bytes_eq-Decides name name).1 refl)

pub heading-other : (before name : List ℕ) → bytes_eq before name ≡ false → heading before name ≡ lines.Ld name ∷ []
heading-other before name e = cond-false _ _ _ e

-- the objects so far, and the lines that are written for them
pub record Ordered (c : Config) (n : ℕ) (d : List ℕ) (waits : Bool) (body : List Line) : Type 0 where
  pub under : Under n (objects c)
  pub text : with_domains [] (in_order (objects c)) ++ heading (last_domain [] (in_order (objects c))) d ≡ body
  pub same : waits ≡ false → last_domain [] (in_order (objects c)) ≡ d

pub step-object : (c : Config) (n m : ℕ) (d : List ℕ) (waits : Bool) (body : List Line) (line : Line) → Ordered c n d waits body → Splits (objects c) (objects (with_line line c)) line → number line ≡ n → n < m → domain line ≡ d
    → Ordered (with_line line c) m d false (body ++ with_members line)
step-object c n m d waits body line o s is lt there =
    let xs = in_order (objects c) in
    let more = order-more (objects c) (objects (with_line line c)) line s (subst (λ k. Under k (objects c)) (sym is) o.under) in
    let last : last_domain [] (in_order (objects (with_line line c))) ≡ d = ap (last_domain []) more ∙ (last-more [] xs line ∙ there) in
    record {
      under = under-split m (objects c) (objects (with_line line c)) line s (under-more n m (objects c) (omega (arith, lt)) o.under) (omega (arith, lt, is));
      text = ap₂ (λ a b. a ++ b) (ap (with_domains []) more ∙ domains-more [] xs line) (ap (λ l. heading l d) last ∙ heading-same d)
          ∙ (append-nil (with_domains [] xs ++ (heading (last_domain [] xs) (domain line) ++ with_members line))
          ∙ (sym (append_assoc (with_domains [] xs) (heading (last_domain [] xs) (domain line)) (with_members line))
          ∙ ap (λ l. l ++ with_members line) (ap (λ x. with_domains [] xs ++ heading (last_domain [] xs) x) there ∙ o.text)));
      same = λ e. last;
    }

pub step-domain : (c : Config) (n m : ℕ) (d name : List ℕ) (body : List Line) → Ordered c n d false body → n ≤ m → bytes_eq d name ≡ false → Ordered c m name true (body ++ lines.Ld name ∷ [])
step-domain c n m d name body o le apart =
    let xs = in_order (objects c) in
    let last = o.same refl in
    let whole : with_domains [] xs ≡ body = sym (append-nil (with_domains [] xs)) ∙ (ap (λ l. with_domains [] xs ++ l) (sym (ap (λ l. heading l d) last ∙ heading-same d)) ∙ o.text) in
    record {
      under = under-more n m (objects c) le o.under;
      text = ap₂ (λ a b. a ++ b) whole (ap (λ l. heading l name) last ∙ heading-other d name apart);
      same = λ e. absurd cc;
    }

pub step-keep : (c e : Config) (n m : ℕ) (d : List ℕ) (waits later : Bool) (body : List Line) → Ordered c n d waits body → objects e ≡ objects c → n ≤ m → (later ≡ false → waits ≡ false) → Ordered e m d later body
step-keep c e n m d waits later body o same le still = record {
  under = subst (Under m) (sym same) (under-more n m (objects c) le o.under);
  text = ap (λ os. with_domains [] (in_order os) ++ heading (last_domain [] (in_order os)) d) same ∙ o.text;
  same = λ f. ap (λ os. last_domain [] (in_order os)) same ∙ o.same (still f);
}

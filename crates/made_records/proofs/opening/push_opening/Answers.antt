-- why `opening::push_opening` answers as its contract says
use Rattle.std.proofs.Common.{◌≡◌, ℕ, List, ◌++◌, refl, append_assoc}
use Rattle.std.specs.Prelude.{Result, Ok, Err, OnOk, is_ok, if◌then◌else◌}
use Rattle.std.proofs.lemmas.Result.{on_ok_weaker}
use Rattle.made_records.proofs.opening.push_opening.Goals as goal

added : {A E : Type 0} (r : Result A E) (now more was : List ℕ) → now ≡ (if is_ok r then more else was) → OnOk r (now ≡ more)
added (Ok x) now more was h = h
added (Err e) now more was h = tt

-- six texts, one after another
six : (out o1 o2 o3 o4 o5 o6 a b c d e f : List ℕ) → o1 ≡ out ++ a → o2 ≡ o1 ++ b → o3 ≡ o2 ++ c → o4 ≡ o3 ++ d → o5 ≡ o4 ++ e → o6 ≡ o5 ++ f
    → o6 ≡ out ++ (a ++ (b ++ (c ++ (d ++ (e ++ f)))))
six out o1 o2 o3 o4 o5 o6 a b c d e f h1 h2 h3 h4 h5 h6 = rw (h6, h5, h4, h3, h2, h1) (simp append_assoc refl)

pub returns : goal.returns
returns c = on_ok_weaker c.extend_from_slice-6.result (six c.args.out.now.items c.extend_from_slice.new.self.items c.extend_from_slice-2.new.self.items c.extend_from_slice-3.new.self.items c.extend_from_slice-4.new.self.items
    c.extend_from_slice-5.new.self.items c.extend_from_slice-6.new.self.items _ _ _ _ _ _ c.in_ok-extend_from_slice.ensures.items c.in_ok-extend_from_slice-2.ensures.items c.in_ok-extend_from_slice-3.ensures.items
    c.in_ok-extend_from_slice-4.ensures.items c.in_ok-extend_from_slice-5.ensures.items)
    (added c.extend_from_slice-6.result c.extend_from_slice-6.new.self.items _ _ c.extend_from_slice-6.ensures.items)

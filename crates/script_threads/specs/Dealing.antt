-- Passes that are dealt to actors.
use Rattle.std.specs.Prelude.{◌≡◌, ◌+◌, ◌*◌, ◌<◌, ◌≤◌, ◌^◌, ℕ, List, [], ◌∷◌, length, Vec, vec_capacity}
use Rattle.std.specs.declared.alloc.Global.{Global}
use Rattle.bay_histories.specs.Rules.{Rules}
use Rattle.history_lock.specs.Passes.{Site, Known}
use Rattle.actor_scripts.specs.declared.script.Script.{Script}
use Rattle.actor_scripts.specs.declared.part.Reply.{Reply}
use Rattle.script_threads.specs.declared.job.Played.{Played}
use Rattle.actor_scripts.specs.Stops.{AreFit}
use Rattle.script_threads.specs.Playing.{IsOf, Went}

-- the caller's pass, which has the numbers below `above`, and turns for the actors of these
abbrev pub IsRest : Site → ℕ → Known → Type 0
IsRest h above p = IsOf h p × (p.first ≡ 0) × (p.count ≡ above) × (p.joined ≡ []) × (p.seen ≡ []) × (above * 2 ^ 55 ≤ p.left)

-- a pass of this history that has seen nothing, with n turns, whose lowest number is the script's
abbrev pub IsFresh : Site → Known × Script → Type 0
IsFresh h x = IsOf h x.0 × (0 < x.0.count) × (x.0.left ≡ 2 ^ 55) × (x.0.seen ≡ []) × (x.1.actor ≡ x.0.first)

-- an actor can run its script with this pass, and there is capacity for the replies
abbrev pub IsReady : Site → Known → Script → Vec Reply Global → Type 0
IsReady h p s replies = IsOf h p × (0 < p.count) × (length s.steps.items ≤ p.left) × AreFit h.config s.steps.items
    × (replies.items ≡ []) × (length s.steps.items ≤ vec_capacity replies)

-- passes of the numbers from `low` below `high`, the highest first, each with its script
abbrev pub Dealt : Site → ℕ → ℕ → List (Known × Script) → Type 0
Dealt h low high [] = low ≡ high
Dealt h low high (x ∷ xs) = IsFresh h x × (x.0.first + x.0.count ≡ high) × Dealt h low x.0.first xs

-- what came of each
abbrev pub AllWent : {M : Type 0} → Rules → List (Known × Script) → List (Played M) → Type 0
AllWent rules [] [] = Unit {0}
AllWent rules (x ∷ xs) (d ∷ ds) = Went rules x.0 x.1 d × AllWent rules xs ds
AllWent rules _ _ = ⊥

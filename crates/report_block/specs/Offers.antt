-- Which entry is reported next to an association: of the next entries of the blocks that it has enabled the one that came to
-- be at the earliest step, at a tie that of the lowest block (the order among blocks is this profile's own).
use Rattle.std.specs.Prelude.{ℕ, suc, nat_le, Bool, false, List, [], ◌∷◌, Option, None, Some, if◌then◌else◌}
use Rattle.std.specs.Option.{option_map, option_and_then}
use Rattle.sv_base.specs.declared.numbers.AssocNo.{AssocNo}
use Rattle.bay_model.specs.Reports.{Offer}
use Rattle.brcb_state.specs.Changes.{next_to}
use Rattle.brcb_state.specs.declared.told.Retained.{Retained}
use Rattle.brcb_state.specs.declared.told.Next.{Next}
use Rattle.entry_ring.specs.Entries.{held_of}
use Rattle.entry_ring.specs.Held.{Held}
use Rattle.entry_ring.specs.Ringed.{entry_at}
use Rattle.entry_ring.specs.Standing.{held}
use Rattle.report_block.specs.declared.block.ReportBlock.{ReportBlock}
use Rattle.report_block.specs.declared.offers.Offer.{Offer as Lent}

-- an entry that may be reported next: its block, how it is reported, and what is kept of it
pub record Offered : Type 0 where
  pub block : ℕ
  pub next : Next
  pub entry : Held

-- as it is lent
abbrev pub offered : Lent → Offered
offered o = record { block = o.block; next = o.next; entry = held_of o.entry }

abbrev pub retained_of : ReportBlock → Retained
retained_of part = record { front = part.ring.front; len = part.ring.newest }

abbrev pub offered_by : AssocNo → ℕ → ReportBlock → Option Offered
offered_by a b part = option_and_then (λ (n : Next). option_map (λ (e : Held). record { block = b; next = n; entry = e }) (entry_at part.ring n.id)) (next_to a (retained_of part) part.block)

-- it came to be no later than at a step
abbrev pub no_later : Option Offered → ℕ → Bool
no_later None step = false
no_later (Some x) step = nat_le x.entry.step step

abbrev pub earlier : Option Offered → Option Offered → Option Offered
earlier None y = y
earlier (Some x) None = Some x
earlier (Some x) (Some y) = if nat_le x.entry.step y.entry.step then Some x else Some y

-- the blocks from number b on
abbrev pub first_offered : AssocNo → ℕ → List ReportBlock → Option Offered
first_offered a b [] = None
first_offered a b (part ∷ parts) = earlier (offered_by a b part) (first_offered a (suc b) parts)

-- an offer of the model, without how it is reported
pub record Chosen : Type 0 where
  pub block : ℕ
  pub id : ℕ
  pub entry : Held

abbrev pub chosen : Offer → Chosen
chosen o = record { block = o.block; id = o.id; entry = held o.entry }

abbrev pub chosen_of : Offered → Chosen
chosen_of o = record { block = o.block; id = o.next.id; entry = o.entry }

-- Data sets that a client deletes (IEC 61850-7-2, DeleteDataSet; ISO 9506-2, DeleteNamedVariableList).
use Rattle.std.specs.Prelude.{ℕ, suc, ◌+◌, Bool, false, not, ◌&&◌, ◌||◌, ◌==◌, List, [], ◌∷◌, ◌++◌, length, is_some, is_none, if◌then◌else◌}
use Rattle.std.specs.Str.{bytes_eq}
use Rattle.bay_model.specs.declared.request.SetName.{SetName}
use Rattle.bay_model.specs.declared.reply.Reply.{Reply}
use Rattle.bay_model.specs.declared.reply.Reply.TheVariants as replies
use Rattle.bay_model.specs.Model.{Model, DataSet, Block}
use Rattle.bay_model.specs.Lookups.{reference_of}
use Rattle.bay_model.specs.Points.{Past, Change, unchanged, deleted}
use Rattle.bay_model.specs.Parameters.{parameters_at}
use Rattle.bay_model.specs.Sets.{sets, set_named, without}
use Rattle.bay_model.specs.declared.deletion_scopes.TheConstants.{SPECIFIC}
use Rattle.bay_model.specs.declared.service_errors.TheConstants.{ACCESS, OBJECT_ACCESS_DENIED}

-- the DatSet of a block, from number b on, names the set
abbrev pub in_use_from : Model → Past → List ℕ → ℕ → List Block → Bool
in_use_from c past reference b [] = false
in_use_from c past reference b (d ∷ ds) = bytes_eq (parameters_at c b past).dat_set reference || in_use_from c past reference (suc b) ds

-- a set may be deleted: it is no configured one, and no block's DatSet names it
abbrev pub is_deletable : Model → Past → SetName → Bool
is_deletable c past n = is_none (set_named n c.sets) && not (in_use_from c past (reference_of n.domain n.item) 0 c.blocks)

-- The names are taken in order. Those that go: a set of the name is there at its turn, and may be deleted.
abbrev pub gone : Model → Past → List SetName → List DataSet → List SetName
gone c past [] all = []
gone c past (n ∷ ns) all =
    (if is_some (set_named n all) && is_deletable c past n then n ∷ [] else [])
    ++ gone c past ns (if is_some (set_named n all) && is_deletable c past n then without n all else all)

-- how many sets are there at their turn
abbrev pub matched : Model → Past → List SetName → List DataSet → ℕ
matched c past [] all = 0
matched c past (n ∷ ns) all = (if is_some (set_named n all) then 1 else 0)
    + matched c past ns (if is_some (set_named n all) && is_deletable c past n then without n all else all)

abbrev pub deletion_reply : Model → Past → ℕ → List SetName → Reply
deletion_reply c past scope names =
    if scope == SPECIFIC then replies.Deleted (matched c past names (sets c past)) (length (gone c past names (sets c past)))
    else replies.Error ACCESS OBJECT_ACCESS_DENIED

-- what comes of the data sets
abbrev pub deletion_change : Model → Past → ℕ → List SetName → Change
deletion_change c past scope names = if scope == SPECIFIC then deleted (gone c past names (sets c past)) else unchanged

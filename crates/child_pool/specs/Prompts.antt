-- The prompts of an update, in the order in which they are asked.
use Rattle.std.specs.Prelude.{◌+◌, ℕ, zero, suc, min, nat_le, List, [], ◌∷◌, ◌++◌, length, map, Bool, true, false}
use Rattle.json_terms.specs.Json.{Json}
use Rattle.view_ports.specs.declared.command.Command.TheVariants.{MapDoc}
use Rattle.child_pool.specs.Jobs.{Job}
use Rattle.child_pool.specs.Stages.{anew, stage_command}
use Rattle.child_pool.specs.Talk.{Due, start_child, asks}
use Rattle.child_pool.specs.Tries.{Prompt}

-- a fresh child is started first
abbrev pub begun : Bool → ℕ → List Due
begun true slot = start_child slot ∷ []
begun false slot = []

-- the reset, or a source: it is asked of the child that is there, or of a fresh one
abbrev pub stage_prompt : ℕ → List (List ℕ) → ℕ → Bool → Prompt
stage_prompt slot sources stage fresh = record {
  slot = slot;
  once = begun fresh slot ++ asks slot (stage_command sources stage) 0;
  again = anew slot sources (suc stage);
}

-- only the first stage may have a fresh child
abbrev pub at_first : ℕ → Bool → Bool
at_first zero fresh = fresh
at_first (suc stage) fresh = false

-- the first stages of a slot
abbrev pub stage_prompts : ℕ → List (List ℕ) → Bool → ℕ → List Prompt
stage_prompts slot sources fresh zero = []
stage_prompts slot sources fresh (suc stage) = stage_prompts slot sources fresh stage ++ stage_prompt slot sources stage (at_first stage fresh) ∷ []

-- the reset and all sources
abbrev pub slot_prompts : ℕ → List (List ℕ) → Bool → List Prompt
slot_prompts slot sources fresh = stage_prompts slot sources fresh (length sources + 1)

-- the first slots are made ready, in rising order: the kept slots have a child, and in the others one is started
abbrev pub slots_prompts : List (List ℕ) → ℕ → ℕ → List Prompt
slots_prompts sources kept zero = []
slots_prompts sources kept (suc slot) = slots_prompts sources kept slot ++ slot_prompts slot sources (nat_le kept slot)

-- a document is asked for of a child that has all sources
abbrev pub document_prompt : ℕ → List (List ℕ) → List (List ℕ × Json) → Prompt
document_prompt slot sources document = record {
  slot = slot;
  once = asks slot (MapDoc document) (length sources);
  again = anew slot sources (length sources + 1) ++ asks slot (MapDoc document) (length sources);
}

-- documents, one after another, by the one child that maps
abbrev pub document_prompts : List (List ℕ) → List (List (List ℕ × Json)) → List Prompt
document_prompts sources documents = map (document_prompt 0 sources) documents

-- the prompts of an update in a pool of this width, where so many slots have a child of its path
abbrev pub update_prompts : Job → ℕ → ℕ → List Prompt
update_prompts job width kept =
    slots_prompts job.sources kept (min width (length job.documents)) ++ document_prompts job.sources job.documents

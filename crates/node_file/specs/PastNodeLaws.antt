-- The laws of a source over the name of a file.
use Rattle.std.proofs.Common.{◌≡◌, [], List, ℕ, refl, ap, ◌∙◌, subst, arith}
use Rattle.view_ports.specs.declared.folder.Folder.{Ghosts as Folders}
use Rattle.gate_file.specs.declared.fault.GateFault.{GateFault}
use Rattle.gate_file.specs.declared.gate.GateFile.{GateFile}
use Rattle.gate_file.specs.GateFile.{name_of}
use Rattle.tree_laws.specs.Meaning.{AreSteps, StaysCaused}
use Rattle.tree_laws.specs.Stores.{Growing, KeepsPlaces, pieces_size}
use Rattle.node_file.specs.declared.file_nodes.FileNodes.{FileNodes}
use Rattle.node_file.specs.declared.past_nodes.PastNodes.{PastNodes}
use Rattle.node_file.specs.Cache.{gets_of, puts_of}
use Rattle.node_file.specs.FileNodes.{Adds, nodes_of}
use Rattle.node_file.specs.PastNodes.{HasSamePast, PastFails, PastGoes, past_nodes}
use Rattle.node_file.specs.ReadLaws.{goes_on_both, none_both, places_kept, read_both, read_none, read_places, tried_both, was_got_both}
use Rattle.node_file.specs.Reads.{GetsNone, nodes_in}

same_past_both : {F : Type 0} (a b c : PastNodes F) → HasSamePast a b → HasSamePast b c → HasSamePast a c
same_past_both a b c first second = record { cache = second.cache ∙ first.cache; folder = second.folder ∙ first.folder; name = second.name ∙ first.name }

-- a source to which nothing is put doesn't grow
same_size : (before after : List (List ℕ)) → after ≡ before → Growing before after 0 0
same_size before after same = let size = ap pieces_size same in omega (arith, size)

module _ {F : Type 0} (f : Folders F) where
  pub past_steps : AreSteps (PastGoes f)
  past_steps = record {
    none = λ a. record { lent = record { cache = refl; folder = refl; name = refl }; reads = read_none f a.folder.now; gets = ([], refl); puts = refl };
    both = λ a b c first second. record {
      lent = same_past_both a b c first.lent second.lent;
      reads = read_both f a.folder.now b.folder.now c.folder.now first.reads second.reads;
      gets = goes_on_both (gets_of a.cache.now) (gets_of b.cache.now) (gets_of c.cache.now) first.gets second.gets;
      puts = second.puts ∙ first.puts;
    };
  }

  pub past_causes : StaysCaused (PastGoes f) (PastFails f)
  past_causes a b c fault goes fails = record {
    lent = same_past_both a b c goes.lent fails.lent;
    reads = tried_both f a.folder.now b.folder.now c.folder.now goes.reads fails.reads;
    cause = none_both f a.name a.folder.now b.folder.now c.folder.now fault goes.reads (subst (λ n. GetsNone f n b.folder.now c.folder.now fault) goes.lent.name fails.cause);
    asked = was_got_both a.cache.now b.cache.now c.cache.now fault goes.gets fails.asked;
    puts = fails.puts ∙ goes.puts;
  }

  pub past_keeps : (a b : PastNodes F) → PastGoes f a b → KeepsPlaces (past_nodes f a) (past_nodes f b)
  past_keeps a b goes = read_places f a.name b.name a.folder.now b.folder.now goes.lent.name goes.reads

  pub past_ready : (a b : PastNodes F) → PastGoes f a b → Unit {0} → Unit {0}
  past_ready a b goes ready = tt

  pub past_grows : (a b : PastNodes F) → PastGoes f a b → Growing (puts_of a.cache.now) (puts_of b.cache.now) 0 0
  past_grows a b goes = same_size (puts_of a.cache.now) (puts_of b.cache.now) goes.puts

  pub past_grew : (a b : PastNodes F) (fault : GateFault) → PastFails f a b fault → Growing (puts_of a.cache.now) (puts_of b.cache.now) 0 0
  past_grew a b fault fails = same_size (puts_of a.cache.now) (puts_of b.cache.now) fails.puts

  -- ---- beside a store over the file's object

  pub past_same : (file : FileNodes F) (past : PastNodes F) → past.name ≡ name_of file.file.now → past.folder.now ≡ file.folder.now → past_nodes f past ≡ nodes_of f file
  past_same file past name folder = ap (λ n. nodes_in f n past.folder.now) name ∙ ap (nodes_in f (name_of file.file.now)) folder

  pub past_later : (file : FileNodes F) (later : GateFile) (past : PastNodes F) → Adds f file.file.now later file.folder.now past.folder.now → past.name ≡ name_of file.file.now → KeepsPlaces (nodes_of f file) (past_nodes f past)
  past_later file later past adds name = places_kept (name_of file.file.now) past.name name (f.disk file.folder.now) (f.disk past.folder.now) adds.stays

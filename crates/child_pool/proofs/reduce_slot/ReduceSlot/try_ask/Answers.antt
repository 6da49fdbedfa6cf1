-- The child is reset where the talk begins, and then it is asked.
use Rattle.std.proofs.Common.{◌≡◌, ◌∙◌, ℕ, List, Ok, Err, refl, subst}
use Rattle.child_pool.specs.ReduceTalk.{Begins}
use Rattle.child_pool.specs.Reducing.{ReducesOne}
use Rattle.child_pool.proofs.Tried.{tries_both, tries_none, tries_unbegun}
use Rattle.child_pool.proofs.reduce_slot.ReduceSlot.try_ask.Goals as goal

pub returns-in-Err : goal.returns-in-Err
returns-in-Err g c = tries_none g.C.Servers c.args.language.now c.args.line.now c.args.self.now c.in-Err.fault (λ none. let is = c.in-Err.ensures.unknown none in cc) c.in-Err.ensures.refused

pub returns-in-Err-begin : goal.returns-in-Err-begin
returns-in-Err-begin g c =
    tries_unbegun g.C.Servers c.args.language.now c.args.line.now c.args.self.now c.in-Ok.path c.in-Ok.ensures.path c.requires.going c.begin.new.self c.in-Err-begin.fault
    (subst (λ (p : List ℕ). Begins g.C.Servers p c.args.self.now c.begin.new.self (Err c.in-Err-begin.fault)) c.as_str.ensures c.in-Err-begin.ensures)

pub returns : goal.returns
returns g c =
    let begins = subst (λ (p : List ℕ). Begins g.C.Servers p c.args.self.now c.begin.new.self (Ok (tt {0}))) c.as_str.ensures c.in-Ok-begin.ensures in
    let slot : c.reduce_slot-slot.result ≡ c.args.self.now.pool.now.width = c.reduce_slot-slot.ensures.slot ∙ begins.lent.keeps.width in
    let one = subst (λ (p : List ℕ). ReducesOne g.C.Servers c.begin.new.self.servers.now c.reduce_one.new.servers c.args.self.now.pool.now.width p c.args.line.now c.reduce_one.result) c.as_str-2.ensures
    (subst (λ (n : ℕ). ReducesOne g.C.Servers c.begin.new.self.servers.now c.reduce_one.new.servers n c.as_str-2.result.now c.args.line.now c.reduce_one.result) slot c.reduce_one.ensures.went) in
    tries_both g.C.Servers c.args.language.now c.args.line.now c.args.self.now c.in-Ok.path c.in-Ok.ensures.path c.requires.going c.begin.new.self _ begins
    (record { pool = refl; servers = refl; keeps = record { languages = refl; width = refl }; later = c.reduce_one.ensures.ends.later }) refl refl c.reduce_one.result one c.reduce_one.ensures.ends c.reduce_one.ensures.bounded

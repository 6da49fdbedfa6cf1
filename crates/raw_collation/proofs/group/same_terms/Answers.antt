use Rattle.std.proofs.Common.{subst, sym}
use Rattle.json_terms.specs.Seen.{json}
use Rattle.raw_collation.proofs.Groups.{equal_just_where_one}
use Rattle.raw_collation.proofs.group.same_terms.Goals as goal

pub returns : goal.returns
returns c = rw (c.is_eq.ensures, c.raw_cmp.ensures) (equal_just_where_one (json c.args.a.now) (json c.args.b.now))

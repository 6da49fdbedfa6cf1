-- Both tests are true just where the keys of the groups are one.
use Rattle.std.proofs.lemmas.Bool.Decides.{same_from_decides}
use Rattle.json_terms.specs.Seen.{json}
use Rattle.raw_collation.specs.Groups.{group_of}
use Rattle.raw_collation.proofs.Groups.{equal_just_where_one}
use Rattle.view_model.specs.Groups.{is_same_group}
use Rattle.view_model.proofs.groups.are_together.Goals as goal

pub returns : goal.returns
returns c =
    let a = c.args.a.now in
    let b = c.args.b.now in
    same_from_decides c.same_group.result (is_same_group c.args.level a b) c.same_group.ensures
    (equal_just_where_one (group_of c.args.level (json a.key)) (group_of c.args.level (json b.key)))

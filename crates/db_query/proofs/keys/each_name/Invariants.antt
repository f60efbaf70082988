use Rattle.std.proofs.Common.{◌≡◌, drop}
use Rattle.json.specs.Value.{members_view as json_members}
use Rattle.db_query.specs.Members.{each_name}
use Rattle.db_query.proofs.keys.each_name.Given as goal

abbrev pub invariant-loop-member : goal.invariant-loop-member
invariant-loop-member l = each_name l.words (json_members l.member-items) ≡ each_name l.words (json_members (drop l.member-index l.member-items))

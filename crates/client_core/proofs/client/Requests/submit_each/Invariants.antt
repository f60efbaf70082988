use Rattle.std.proofs.Common.{◌≡◌, ◌++◌, ◌+◌, take, drop}
use Rattle.client_core.specs.Submissions.{messages_of, after_numbers, AreReadBack}
use Rattle.client_core.proofs.client.Requests.submit_each.Given as goal

-- the messages so far and those of the tasks that are left are those of all
abbrev pub invariant-loop-place : goal.invariant-loop-place
invariant-loop-place g l =
    record {
      all : l.messages ++ messages_of l.fn.self l.moment (l.first + l.place) (drop l.place l.submissions) ≡ messages_of l.fn.self l.moment l.first l.submissions;
      reads : AreReadBack l.messages (take l.place l.submissions);
      noted : l.self ≡ after_numbers l.fn.self l.first l.place;
    }

-- What a client sends, and what it knows behind that.
use Rattle.std.specs.Prelude.{ℕ, List, Result, Ok, Err, if◌then◌else◌}
use Rattle.cluster_types.specs.declared.message.Message.{Message}
use Rattle.client_core.specs.declared.error.SubmitError.{SubmitError}
use Rattle.client_core.specs.declared.error.SubmitError.TheVariants.{KnownId}
use Rattle.client_core.specs.declared.request.Request.{Request as BorrowedRequest}
use Rattle.client_core.specs.Clients.{Known, is_used, with_id}
use Rattle.client_core.specs.Identifier.{client_id}
use Rattle.client_core.specs.Messages.{Request, message_under}

-- a request in the code, as the definitions speak of it
abbrev pub request_of : BorrowedRequest → Request
request_of r = record { target = r.target.now; msg_type = r.msg_type.now; metadata = r.metadata.now; content = r.content.now }

-- the message of a request at a moment, under the id of random octets
abbrev pub message_of : Known → List ℕ → ℕ → Request → Message
message_of client random moment request = message_under client.session (client_id random) moment request

-- a task or a request to one engine is sent unless its id was used, apart from want of memory
abbrev pub sent : Known → List ℕ → ℕ → Request → Result Message SubmitError
sent client random moment request = if is_used client.used (client_id random) then Err KnownId else Ok (message_of client random moment request)

-- the client behind it knows one id more
abbrev pub after_sending : Known → List ℕ → Known
after_sending client random = record client { used = with_id client.used (client_id random) }

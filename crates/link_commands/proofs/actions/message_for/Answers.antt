use Rattle.link_commands.specs.Actions.{result_request, abort_request, history_request, shutdown_request}
use Rattle.link_commands.proofs.actions.message_for.Goals as goal
use Rattle.cluster_defs.specs.Texts.{empty_object}

pub returns-in-Result-clause-value : goal.returns-in-Result-clause-value
unfolding result_request
returns-in-Result-clause-value c = rw c.in-Result.is c.request_about.ensures

pub returns-in-Abort-clause-value : goal.returns-in-Abort-clause-value
unfolding abort_request
returns-in-Abort-clause-value c = rw c.in-Abort.is c.request_about-in-Abort.ensures

pub returns-in-History-clause-value : goal.returns-in-History-clause-value
unfolding history_request empty_object
returns-in-History-clause-value c = rw c.in-History.is c.hub_request-in-History.ensures

pub returns-in-Shutdown-clause-value : goal.returns-in-Shutdown-clause-value
unfolding shutdown_request empty_object
returns-in-Shutdown-clause-value c = rw c.in-Shutdown.is c.hub_request-in-Shutdown.ensures

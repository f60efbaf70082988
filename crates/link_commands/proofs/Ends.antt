-- How what goes over a dialled link ends.
use Rattle.std.proofs.Common.{◌≡◌, ◌≢◌, ℕ, ◌<◌, ◌≤◌, List, [], length, Option, sym, ap, subst, ◌∙◌, arith}
use Rattle.cluster_types.specs.Causes.{Rose}
use Rattle.engine_core.specs.State.{State, Standing, new_engine, standing}
use Rattle.link_commands.specs.Working.{IsWhole}
use Rattle.jupyter_parts.specs.Signed.{delimiter}
use Rattle.link_commands.specs.EngineEnds.{HasServed}
use Rattle.link_commands.specs.Links.{Dials, IsDialled}
use Rattle.zmtp_peer.specs.declared.fault.PeerFault.{PeerFault}

pub served : {I O : Type 0} (links : Dials I O) (key uuid : List ℕ) (fault : Option PeerFault) (r i : I) (w o : O) (engine : State) (after : Standing) →
    IsDialled links r w → engine ≡ new_engine uuid → IsWhole key (standing engine) (links.tells.left r) (links.tells.left i) (links.tells.written w) (links.tells.written o) after fault → HasServed links key uuid fault i o
served links key uuid fault r i w o engine after link is whole = record {
  reader = r;
  writer = w;
  after = after;
  link = link;
  whole = subst (λ (e : State). IsWhole key (standing e) (links.tells.left r) (links.tells.left i) (links.tells.written w) (links.tells.written o) after fault) is whole;
}

-- a count that was 0 and rose is above it
pub rose_above : (before now : ℕ) → before ≡ 0 → Rose before now → 0 < now
rose_above before now none rose = omega (arith, none, rose)

-- a request without a target

pub empty_is_short : (target : List ℕ) → target ≡ [] → length target ≤ 255
empty_is_short target none = omega (arith, ap length none)

pub empty_is_plain : (target : List ℕ) → target ≡ [] → target ≢ delimiter
unfolding delimiter
empty_is_plain target none is = let same : [] ≡ delimiter = sym none ∙ is in cc

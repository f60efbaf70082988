-- What is read of a link up to its first signed message.
use Rattle.std.specs.Prelude.{◌≡◌, ℕ, List, ◌++◌, Bool, true, false, Option, is_some}
use Rattle.std.specs.List.{list_any}
use Rattle.edges.specs.Streams.{Took}
use Rattle.jupyter_parts.specs.Signed.{read_parts}
use Rattle.link_messages.specs.Message.{signed}
use Rattle.zmtp_peer.specs.declared.fault.PeerFault.{PeerFault}
use Rattle.zmtp_peer.specs.PeerStream.{Talk, talked, messages, fault_of}

-- whether frames are a message that is signed with the key
abbrev pub is_signed : List ℕ → List (List ℕ) → Bool
is_signed key frames = is_some (signed (read_parts key frames))

module _ (key : List ℕ) (before : List (List (List ℕ))) (talk : Talk) where
  -- Octets were read. The messages that came before and those that the octets end are some of which none is signed, and
  -- then these, of which one is.
  pub record IsReadToSigned (now : Talk) (early : List (List (List ℕ))) (left rest : Option (List ℕ)) : Type 0 where
    pub octets : List ℕ
    pub took : Took octets left rest
    pub talk_is : now ≡ talked talk octets
    pub passed : List (List (List ℕ))
    pub parts : before ++ messages talk octets ≡ passed ++ early
    pub none_passed : list_any (is_signed key) passed ≡ false
    pub one_early : list_any (is_signed key) early ≡ true

  -- Octets were read whose stream has this fault, or none, and none of the messages is signed.
  pub record IsReadUnsigned (now : Talk) (fault : Option PeerFault) (left rest : Option (List ℕ)) : Type 0 where
    pub octets : List ℕ
    pub took : Took octets left rest
    pub talk_is : now ≡ talked talk octets
    pub fault_is : fault_of now.phase ≡ fault
    pub unsigned : list_any (is_signed key) (before ++ messages talk octets) ≡ false

  -- it ended so, however its stream then stood
  abbrev pub EndsUnsigned : Option PeerFault → (left rest : Option (List ℕ)) → Type 0
  EndsUnsigned fault left rest = (now : Talk) × IsReadUnsigned now fault left rest

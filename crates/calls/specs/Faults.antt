-- The refusals of a hub: each with its number, its layer, and the wire number that an unreadable update has inside.
--   policy_number   the number of a policy fault
--   fault_number    the number of a fault
--   fault_layer     the part of the hub that refuses
--   fault_wire      the wire number inside
--   of_awareness    a fault of presence calls among those of all layers
--   of_writing      a fault of writing among them
use Rattle.std.specs.Prelude.{ℕ, Some, None, Option}
use Rattle.encoding.specs.declared.write.WriteFault.{WriteFault}
use Rattle.encoding.specs.declared.write.WriteFault.TheVariants.{Wire as WriteWire, Short as WriteShort}
use Rattle.encoding.specs.Fault.{wire_number}
use Rattle.awareness.specs.declared.fault.AwarenessFault.{AwarenessFault}
use Rattle.awareness.specs.declared.fault.AwarenessFault.TheVariants.{Wire as AwarenessWire, Presence as AwarenessPresence, Short as AwarenessShort}
use Rattle.awareness.specs.Faults.{presence_number}
use Rattle.document.specs.declared.fault.DocumentFault.{DocumentFault}
use Rattle.document.specs.declared.fault.DocumentFault.TheVariants.{Unreadable, TooLarge}
use Rattle.document.specs.Taking.{document_number}
use Rattle.calls.specs.declared.fault.PolicyFault.{PolicyFault}
use Rattle.calls.specs.declared.fault.PolicyFault.TheVariants.{PermissionDenied, Unsupported}
use Rattle.calls.specs.declared.fault.Fault.{Fault}
use Rattle.calls.specs.declared.fault.Fault.TheVariants.{Wire, Presence, Policy, Document, Buffer}
use Rattle.calls.specs.declared.fault.Layer.{Layer}
use Rattle.calls.specs.declared.fault.Layer.TheVariants.{Wire as WireLayer, Presence as PresenceLayer, Policy as PolicyLayer, Document as DocumentLayer, Buffer as BufferLayer}

-- the number under which a policy fault is known to users
abbrev pub policy_number : PolicyFault → ℕ
policy_number PermissionDenied = 10
policy_number Unsupported = 11

-- the number under which a fault is known to users
abbrev pub fault_number : Fault → ℕ
fault_number (Wire f) = wire_number f
fault_number (Presence f) = presence_number f
fault_number (Policy f) = policy_number f
fault_number (Document f) = document_number f
fault_number Buffer = 14

-- the part of the hub that refuses
abbrev pub fault_layer : Fault → Layer
fault_layer (Wire f) = WireLayer
fault_layer (Presence f) = PresenceLayer
fault_layer (Policy f) = PolicyLayer
fault_layer (Document f) = DocumentLayer
fault_layer Buffer = BufferLayer

-- the wire number that an unreadable update has inside
abbrev pub wire_inside : DocumentFault → Option ℕ
wire_inside (Unreadable f) = Some (wire_number f)
wire_inside TooLarge = None

abbrev pub fault_wire : Fault → Option ℕ
fault_wire (Wire f) = None
fault_wire (Presence f) = None
fault_wire (Policy f) = None
fault_wire (Document f) = wire_inside f
fault_wire Buffer = None

-- a fault of presence calls among those of all layers
abbrev pub of_awareness : AwarenessFault → Fault
of_awareness (AwarenessWire f) = Wire f
of_awareness (AwarenessPresence f) = Presence f
of_awareness AwarenessShort = Buffer

-- a fault of writing among them
abbrev pub of_writing : WriteFault → Fault
of_writing (WriteWire f) = Wire f
of_writing WriteShort = Buffer

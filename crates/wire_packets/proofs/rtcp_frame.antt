pub mod PacketSteps

-- A feedback message as code has it.
use Rattle.rams_model.specs.Formats.TransportFeedback as model
use Rattle.wire_packets.specs.declared.rtcp_feedback.feedback_message.Feedback.{Feedback}

-- a message without where it lies in memory
abbrev pub shown_feedback : Feedback → model.Feedback
shown_feedback f = record { sender = f.sender; media = f.media; format = f.fmt; fci = f.fci.now }

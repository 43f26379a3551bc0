pub mod rtp_record
pub mod rtx_payload
pub mod rtcp_frame
pub mod rtcp_feedback
pub mod rams_tlv

-- The bytes of packets and messages: RTP, retransmissions, RTCP, generic NACKs and RAMS messages.
pub mod RtpPacket
pub mod Rtp
pub mod PlainPackets
pub mod Rtcp
pub mod TransportFeedback
pub mod Rams
pub mod RamsInfo
pub mod Joined
unfoldable pub use Rattle.rams_model.specs.Formats.RtpPacket.{flag, header, spelling, stripped, wire_size, retransmission, is_plain, packet_of}
pub use Rattle.rams_model.specs.Formats.RtpPacket.{Packet}
unfoldable pub use Rattle.rams_model.specs.Formats.Rtp.{version, has_padding, has_extension, csrc_size, behind_header, behind_csrc, extension_size, behind_extension, padding_size, lacks_extension, miscounts_padding, fields_of, packet_at, AreCsrc, WhatIsReadIsSpelledSo, WhatIsSpelledSoIsRead, original_number, original}
pub use Rattle.rams_model.specs.Formats.Rtp.{IsWholeExtension, IsWholePadding, IsPacket}
unfoldable pub use Rattle.rams_model.specs.Formats.PlainPackets.{PlainPacketsAreSpelledAgain}
unfoldable pub use Rattle.rams_model.specs.Formats.Rtcp.{packet_text, least_body, IsCompound, packet_size, is_padded, rtcp_padding, is_padding_right, framed_first, packet_fault, packet_format, framed, bye_names, rr_packet, sdes_packet, bye_packet}
pub use Rattle.rams_model.specs.Formats.Rtcp.{Framed, IsRtcpPacket}
unfoldable pub use Rattle.rams_model.specs.Formats.TransportFeedback.{feedback_of, counted_from, word_numbers, numbers_of, nack_numbers, distance, words_from, nack_words, nack_packet}
pub use Rattle.rams_model.specs.Formats.TransportFeedback.{Feedback, FramesAs}
unfoldable pub use Rattle.rams_model.specs.Formats.Rams.{request_length, info_length, stop_length, IsMessage, value_length, tlv_size, first_tlv, tlv_fault, tlv_format, tlvs_at, first_value, number_of, ssrcs_in, ssrcs_back, request_of, request_at, info_of, info_at, stop_of, stop_at, is_listed, names, ssrcs_tlv, preamble_tlv, request_fci, stop_fci, FitsIn, request_back, rams_request, rams_stop}
pub use Rattle.rams_model.specs.Formats.Rams.{Tlv, IsTlv, Request, FitsRequest, FitsInfo}
unfoldable pub use Rattle.rams_model.specs.Formats.RamsInfo.{transport_feedback, tlv, optional_tlv, info_fci, rams_info}
unfoldable pub use Rattle.rams_model.specs.Formats.Joined.{unless_fault, onto, pieces_from, pieces_of, Joins, map_ok, words32}
pub use Rattle.rams_model.specs.Formats.Joined.{Format}

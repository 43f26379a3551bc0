-- The words of a channel line, in the parts that they are written in.
use Rattle.std.specs.Prelude.{◌∷◌, [], codes, decimal}
use Rattle.rams_model.specs.declared.Channel.{Channel}
use Rattle.rams_model.specs.Texts.{access_word, word32}
use Rattle.rams_model.specs.Texts.TraceLines.{Words}

-- what names things
abbrev pub names_words : Channel → Words
names_words c =
    codes "channel" ∷ decimal c.id ∷ codes "ssrc" ∷ word32 c.ssrc ∷ codes "pt" ∷ decimal c.pt ∷ codes "rtx" ∷ decimal c.rtx
    ∷ codes "server" ∷ word32 c.server ∷ codes "seq0" ∷ decimal c.seq0 ∷ []

-- which packets are held, and which of them are access points
abbrev pub places_words : Channel → Words
places_words c = codes "ring" ∷ decimal c.ring ∷ codes "window" ∷ decimal c.window ∷ codes "access" ∷ access_word c.access ∷ []

-- the amounts of bytes
abbrev pub amounts_words : Channel → Words
amounts_words c =
    codes "share" ∷ decimal c.share ∷ codes "reserve" ∷ decimal c.reserve ∷ codes "burst" ∷ decimal c.burst ∷ codes "declared"
    ∷ decimal c.declared ∷ codes "minwire" ∷ decimal c.minwire ∷ []

-- how long, and for how many
abbrev pub bounds_words : Channel → Words
bounds_words c = codes "limit" ∷ decimal c.limit ∷ codes "idle" ∷ decimal c.idle ∷ codes "clients" ∷ decimal c.clients ∷ []

-- The IDs of the elements that are read or written, with their marker bits (RFC 8794, section 5), each under its
-- name in RFC 8794 or RFC 9559.
use Rattle.std.specs.Prelude.{ℕ}

-- EBML, the header with which a film begins (RFC 8794, section 11.2)
abbrev pub EBML_HEADER : ℕ
EBML_HEADER = 0x1A45_DFA3

-- EBMLReadVersion, of the header
abbrev pub EBML_READ_VERSION : ℕ
EBML_READ_VERSION = 0x42F7

-- EBMLMaxIDLength, of the header
abbrev pub EBML_MAX_ID_LENGTH : ℕ
EBML_MAX_ID_LENGTH = 0x42F2

-- EBMLMaxSizeLength, of the header
abbrev pub EBML_MAX_SIZE_LENGTH : ℕ
EBML_MAX_SIZE_LENGTH = 0x42F3

-- DocType, of the header
abbrev pub DOC_TYPE : ℕ
DOC_TYPE = 0x4282

-- DocTypeReadVersion, of the header
abbrev pub DOC_TYPE_READ_VERSION : ℕ
DOC_TYPE_READ_VERSION = 0x4285

-- Segment, which holds all that follows (RFC 9559, section 5.1)
abbrev pub SEGMENT : ℕ
SEGMENT = 0x1853_8067

-- SeekHead, of the Segment
abbrev pub SEEK_HEAD : ℕ
SEEK_HEAD = 0x114D_9B74

-- Info, of the Segment
abbrev pub INFO : ℕ
INFO = 0x1549_A966

-- Tracks, of the Segment
abbrev pub TRACKS : ℕ
TRACKS = 0x1654_AE6B

-- Cluster, of the Segment
abbrev pub CLUSTER : ℕ
CLUSTER = 0x1F43_B675

-- Cues, of the Segment
abbrev pub CUES : ℕ
CUES = 0x1C53_BB6B

-- Chapters, of the Segment
abbrev pub CHAPTERS : ℕ
CHAPTERS = 0x1043_A770

-- Tags, of the Segment
abbrev pub TAGS : ℕ
TAGS = 0x1254_C367

-- Attachments, of the Segment
abbrev pub ATTACHMENTS : ℕ
ATTACHMENTS = 0x1941_A469

-- TimestampScale, of Info
abbrev pub TIMESTAMP_SCALE : ℕ
TIMESTAMP_SCALE = 0x2A_D7B1

-- TrackEntry, of Tracks
abbrev pub TRACK_ENTRY : ℕ
TRACK_ENTRY = 0xAE

-- TrackNumber, of a TrackEntry
abbrev pub TRACK_NUMBER : ℕ
TRACK_NUMBER = 0xD7

-- TrackUID, of a TrackEntry
abbrev pub TRACK_UID : ℕ
TRACK_UID = 0x73C5

-- TrackType, of a TrackEntry
abbrev pub TRACK_TYPE : ℕ
TRACK_TYPE = 0x83

-- CodecID, of a TrackEntry
abbrev pub CODEC_ID : ℕ
CODEC_ID = 0x86

-- Name, of a TrackEntry
abbrev pub NAME : ℕ
NAME = 0x536E

-- Language, of a TrackEntry
abbrev pub LANGUAGE : ℕ
LANGUAGE = 0x22_B59C

-- FlagDefault, of a TrackEntry
abbrev pub FLAG_DEFAULT : ℕ
FLAG_DEFAULT = 0x88

-- DefaultDuration, of a TrackEntry
abbrev pub DEFAULT_DURATION : ℕ
DEFAULT_DURATION = 0x23_E383

-- ContentEncodings, of a TrackEntry
abbrev pub CONTENT_ENCODINGS : ℕ
CONTENT_ENCODINGS = 0x6D80

-- Timestamp, of a Cluster
abbrev pub TIMESTAMP : ℕ
TIMESTAMP = 0xE7

-- SimpleBlock, of a Cluster
abbrev pub SIMPLE_BLOCK : ℕ
SIMPLE_BLOCK = 0xA3

-- BlockGroup, of a Cluster
abbrev pub BLOCK_GROUP : ℕ
BLOCK_GROUP = 0xA0

-- Block, of a BlockGroup
abbrev pub BLOCK : ℕ
BLOCK = 0xA1

-- ReferenceBlock, of a BlockGroup
abbrev pub REFERENCE_BLOCK : ℕ
REFERENCE_BLOCK = 0xFB

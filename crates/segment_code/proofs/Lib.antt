mod SizeBits
mod BlockBounds
mod BlockLists
pub mod TextOctets
mod DcFits
mod DcText
pub mod Encoding
pub mod Bounded
mod Parts
mod NumberSizes
mod PlaneParts
mod EntryBits
mod PlaneBits
mod NumberBits
pub mod TextBits
mod DepthMarks
mod SegmentDepths
mod Holding
mod BlocksHeld
mod DcsRestored
mod StartReads
mod EndOctets
mod Deciding
mod AnswerLaws
mod BoundedScripts
mod BoundedNumbers
mod BoundedPlanes
mod BoundedTexts
mod OutcomesAgree
mod WorkedRead
mod TakenOctets
mod ItemsDecoded
mod FromText
mod Joined
mod EndsSay
mod TextJoined
mod PartsGiven
mod SpelledDecide
pub mod CodedChoices
mod JoinedSizes
mod CodedPrefixes
mod CodedRead
mod WishedRuns

pub mod PageReplyLaws
pub mod SpaceLaws
pub mod RoomLaws
pub mod RedrawRoomLaws
